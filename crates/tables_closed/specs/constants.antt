pub mod Bounds
pub mod Ordered
