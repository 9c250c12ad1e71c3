-- What private functions of this crate promise each other, reports from what blocks take, and running totals.
pub mod Tiles
pub mod Stands
pub mod Luma
pub mod Reports
pub mod Totals
