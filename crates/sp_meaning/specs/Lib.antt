pub mod Formats
pub mod Models
