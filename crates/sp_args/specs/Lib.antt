pub mod Values
pub mod Words
pub mod Requests
pub mod InnerCommand
pub mod InnerReading
pub mod InnerMeanings
