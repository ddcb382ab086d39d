-- What the contracts of this crate cite, beside the definitions of calculus.
pub mod Answers
pub mod Promises
pub mod Buffers
pub mod Parts
