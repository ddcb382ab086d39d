-- The laws behind the proofs of this crate.
pub mod Zeros
pub mod Telling
pub mod Delivering
pub mod Stepping
pub mod Loading
pub mod Picking
pub mod Running
