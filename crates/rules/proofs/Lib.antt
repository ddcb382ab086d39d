-- The laws that the proofs of the functions of this crate share, in reading order.
pub mod Chunks
pub mod Redexes
pub mod Splicing
pub mod Replacing
pub mod Storing
pub mod Applying
pub mod Sectioning
pub mod Joining
pub mod Forking
pub mod Advancing
