-- The laws that the proofs of the C functions use.
pub mod Bits
pub mod Reporting
pub mod Reports
