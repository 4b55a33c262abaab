pub mod Merging
pub mod Scaling
