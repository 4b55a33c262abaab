pub mod Bounds
pub mod Closing
pub mod Inner
pub mod Keeping
pub mod KeptBounds
pub mod Raising
pub mod StatedLists
pub mod Stating
