-- Laws that several proofs of this crate cite.
pub mod Squares
pub mod Fetches
pub mod Windows
