pub mod Filters
pub mod Held
pub mod InnerLowering
pub mod Laws
pub mod Lowering
