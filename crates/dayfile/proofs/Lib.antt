pub mod Columns
pub mod Orders
pub mod Lines
pub mod Openings
pub mod Rows
pub mod Seven
pub mod Unique
