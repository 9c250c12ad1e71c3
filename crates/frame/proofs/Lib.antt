-- The proofs of this crate: orders read, numbers one after the other, macroblocks put into rows and rows into a frame, three planes of it, and one
-- module for each function.
pub mod Reading
pub mod Numbers
pub mod Placing
pub mod Filling
