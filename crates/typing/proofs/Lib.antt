-- The laws that the proofs of this crate's functions share, in reading order.
pub mod Fronts
pub mod Copies
pub mod TagWords
pub mod Ends
pub mod Equality
pub mod Meaning
pub mod Rulings
pub mod Nodes
pub mod Output
pub mod Sizes
pub mod Children
pub mod Firsts
pub mod Whole
pub mod Scripts
pub mod Final
pub mod Exactly
