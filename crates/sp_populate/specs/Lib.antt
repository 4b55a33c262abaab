pub mod Complete
pub mod Ends
pub mod InnerEnds
pub mod Listings
pub mod InnerLists
pub mod Best
pub mod InnerBest
