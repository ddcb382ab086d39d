-- What a reader of this project must believe, in the order of paper 01. Definitions only; the laws are in proofs/.
pub mod Options
pub mod Maps
-- "Expressions as words"
pub mod Types
pub mod Expressions
pub mod Tags
pub mod Words
pub mod Formed
pub mod Reading
pub mod Numbers
-- "State"
pub mod Stores
pub mod States
pub mod Images
-- "One step of revision r"
pub mod Substitution
pub mod Redexes
pub mod Places
pub mod NewNumbers
pub mod Rules
pub mod Steps
-- "The check"
pub mod Typing
-- "What comes back"
pub mod Answers
pub mod Conditions
-- Runs and demand 3
pub mod Runs
-- "Fixed examples"
pub mod Examples
