-- The proofs of the demands.
pub mod Unique
pub mod Numbers
pub mod Refusals
pub mod DemandTwo
pub mod DemandThree
