-- The proofs of this crate: laws that several share, one module for each function; and demand 3, carried to the C functions, of predictions and of finished blocks.
pub mod Laws
pub mod Reports
pub mod Carried
pub mod Finishing
pub mod FinishedCarried
