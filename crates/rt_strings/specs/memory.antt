pub mod Routines
pub mod Specifications
