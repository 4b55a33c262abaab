pub mod InnerEntries
pub mod InnerKept
pub mod Rows
pub mod Spellings
pub mod Words
