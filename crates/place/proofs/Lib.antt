-- The laws that the proofs of this crate's functions share, in reading order.
pub mod Contexts
pub mod Tags
pub mod Nodes
pub mod Looking
pub mod Searching
