pub mod InnerLines
pub mod InnerPools
pub mod InnerRanks
pub mod InnerSerials
pub mod Pools
