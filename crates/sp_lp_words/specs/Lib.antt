pub mod Classes
pub mod InnerFirsts
pub mod Sections
pub mod Tables
