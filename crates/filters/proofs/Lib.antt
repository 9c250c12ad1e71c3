-- Laws that several proofs of this crate and of `blocks` cite.
pub mod Told
