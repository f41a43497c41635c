pub mod Showing
pub mod Routines
pub mod Specifications
