-- Laws that several proofs of this crate cite.
pub mod Writing
-- What is proved of the definitions: the tables, ranges, which levels are refused
pub mod Tables
pub mod Ranges
pub mod Refused
pub mod Keeping
