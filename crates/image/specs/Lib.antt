-- What the contracts of this crate cite, beside the definitions of calculus.
pub mod Standing
pub mod Cuts
pub mod Matches
pub mod Marks
pub mod Fresh
pub mod Reports
