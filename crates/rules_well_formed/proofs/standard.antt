pub mod Arguments
pub mod Held
pub mod Rows
pub mod Sizes
