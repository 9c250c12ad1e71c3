-- Laws that several proofs of this crate cite.
pub mod Gathering
pub mod Passes
pub mod Clipped
pub mod Pairs
