-- Laws that several proofs of this crate and of those above it cite.
pub mod Tiles
pub mod Macroblock
pub mod Reports
pub mod Told
