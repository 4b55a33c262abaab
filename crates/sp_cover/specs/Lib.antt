pub mod Numbers
pub mod Cover
pub mod Moves
pub mod Listing
