-- What the contracts of this crate cite, beside the definitions of calculus, image and write.
pub mod Substitutes
