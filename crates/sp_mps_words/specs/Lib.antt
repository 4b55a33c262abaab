pub mod Heads
pub mod Kinds
pub mod Marks
pub mod Values
pub mod Words
pub mod Lines
