-- Quantised levels (RFC 6386, sections 9.6 and 14.1).
-- What a reader has to believe: the definitions, in this order
pub mod Factors
pub mod Levels
-- What the functions of this crate promise each other. What is proved of the definitions stands in proofs/
pub mod Inner
