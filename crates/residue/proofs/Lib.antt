-- Laws that several proofs of this crate cite.
pub mod Passes
pub mod Filling
pub mod Areas
pub mod Finishing
-- What is proved of the definitions: the short paths, ranges, where the listings of the RFC agree, demand 3 of the finished block, which
-- coefficients are refused, and planes as parts of a list
pub mod ShortPaths
pub mod Ranges
pub mod Listing
pub mod Parts
pub mod Merging
pub mod Refused
pub mod Pieces
