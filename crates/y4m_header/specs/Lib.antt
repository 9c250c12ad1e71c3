pub mod HeaderLine
pub mod Inner
pub mod Words
