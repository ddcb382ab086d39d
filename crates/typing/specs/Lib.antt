-- What the contracts of this crate cite, beside the definitions of calculus: the public promise first.
pub mod Checks
pub mod Held
pub mod Rulings
pub mod Inferring
pub mod Writing
pub mod Answering
