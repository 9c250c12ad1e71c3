-- What functions of this crate and of those above it promise each other. Laws of it stand in proofs/
pub mod Taps
pub mod Rows
pub mod Tally
pub mod Window
pub mod View
pub mod Side
