pub mod Columns
pub mod Extremes
pub mod Flags
pub mod Inner
pub mod Ranges
pub mod Rows
