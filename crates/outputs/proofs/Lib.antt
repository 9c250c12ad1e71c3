-- The proofs of this crate: laws that they share, and one module for each function.
pub mod Laws
pub mod Told
