-- The laws that the proofs of this crate's functions share, in reading order.
pub mod Cursors
pub mod Entries
pub mod OverlaidMaps
pub mod Merging
pub mod Laying
pub mod Putting
