-- What the contracts of this crate cite, beside the definitions of calculus.
pub mod Tags
pub mod Rows
pub mod Walks
pub mod Scopes
pub mod Names
pub mod Marks
pub mod Scripts
pub mod Buffers
