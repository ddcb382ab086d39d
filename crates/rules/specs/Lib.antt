-- What the contracts of this crate cite, beside the definitions of the crates below.
pub mod Work
pub mod Splicing
pub mod Operations
pub mod Putting
pub mod Applying
pub mod Sections
pub mod Forks
pub mod Advancing
