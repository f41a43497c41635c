pub mod Routines
pub mod Numbers
pub mod Division
pub mod Specifications
