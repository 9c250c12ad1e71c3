-- Vectors as bytes: the definition, laws of it, and a vector spelled sixteen times.
pub mod Bytes
pub mod Laws
pub mod Spelled
