-- Laws that several proofs of this crate cite.
pub mod Calls
pub mod Halves
pub mod Rows16
pub mod Rolls
pub mod Lanes
