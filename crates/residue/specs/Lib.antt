-- The residue of a macroblock (RFC 6386, section 14).
-- What a reader has to believe: the definitions, in this order
pub mod Transform
pub mod Coefficients
pub mod Reconstruction
-- What the functions of this crate promise each other. What is proved of the definitions stands in proofs/
pub mod Inner
