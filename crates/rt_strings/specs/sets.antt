pub mod Sets
pub mod Routines
pub mod Specifications
