-- The laws of the definitions of specs/, in reading order.
pub mod Options
pub mod Maps
pub mod Reading
pub mod Places
pub mod ValuePlaces
pub mod Members
pub mod Stores
pub mod Images
pub mod Rules
pub mod TypingRules
pub mod TypingLaws
pub mod NewNumbers
pub mod Validity
pub mod Views
pub mod Outcomes
-- Runs and demand 3
pub mod Taken
pub mod Progress
pub mod Retyping
pub mod Safety
pub mod Keeping
pub mod Forks
pub mod Joins
pub mod Soundness
pub mod Runs
pub mod DemandThree
-- The table of fixed examples
pub mod Examples
