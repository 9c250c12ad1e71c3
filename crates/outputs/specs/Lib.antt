-- A lent output: what a call leaves in it, and laws of that.
pub mod Output
pub mod Laws
