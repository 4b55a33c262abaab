pub mod Wording
pub mod Replies
pub mod Printing
