-- Whole frames.
-- What a reader has to believe
pub mod Frame
-- What the functions inside this crate promise one another
pub mod Codes
pub mod Inner
-- What is proved of the definition: laws, what a call leaves, and demand 3
pub mod Laws
pub mod Theorems
pub mod Merging
