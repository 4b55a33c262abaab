pub mod Commands
pub mod Filters
pub mod InnerResults
pub mod Lawful
pub mod Lines
pub mod Sums
pub mod Values
