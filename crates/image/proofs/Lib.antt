-- The laws that the proofs of this crate's functions share, in reading order.
pub mod Standing
pub mod Left
pub mod Seeking
pub mod Sections
pub mod Around
pub mod Readers
pub mod Values
pub mod Walking
pub mod Whole
pub mod Gathering
pub mod Images
pub mod Locations
pub mod Revisions
pub mod Free
pub mod Reporting
