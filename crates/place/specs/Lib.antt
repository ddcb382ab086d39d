-- What the contracts of this crate cite, beside the definitions of calculus and image.
pub mod Search
