-- What functions of this crate promise each other.
pub mod Calls
pub mod Lanes
pub mod Pairs
pub mod Rolling
