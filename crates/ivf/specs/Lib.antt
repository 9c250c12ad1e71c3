pub mod Format
pub mod Inner
pub mod Mending
