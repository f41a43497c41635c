pub mod Data
pub mod Routines
pub mod Specifications
