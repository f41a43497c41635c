pub mod Ahead
pub mod Routines
pub mod Specifications
