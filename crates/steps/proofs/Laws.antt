-- Laws of steps, rows, rectangles and windows, that proofs of this crate and of those above it cite.
pub mod Copying
pub mod Twofold
pub mod Windows
pub mod Bytes
pub mod Mixing
pub mod Samples
pub mod Counting
pub mod Tallies
pub mod Parts
