pub mod Kept
pub mod Order
pub mod Paths
pub mod Reasons
pub mod Sides
pub mod Stages
pub mod Uses
pub mod Within
