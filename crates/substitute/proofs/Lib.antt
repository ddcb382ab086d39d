-- The laws that the proofs of this crate's functions share, in reading order.
pub mod Heads
pub mod Pieces
pub mod Replacing
