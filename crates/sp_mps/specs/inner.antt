pub mod Steps
pub mod Room
pub mod Reads
pub mod Tables
pub mod Parts
