pub mod Unit
pub mod Specifications
pub mod clear
pub mod scratch
pub mod heap
pub mod overlay
