pub mod Arguments
pub mod Functions
pub mod Variables
pub mod Procedures
pub mod Blocks
pub mod Sizes
pub mod Calls
