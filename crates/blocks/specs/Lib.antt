-- What functions of this crate and of those above it promise each other.
pub mod Places
pub mod Taken
pub mod Laws
pub mod Lents
