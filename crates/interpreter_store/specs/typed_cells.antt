pub mod Sorts
pub mod Parts
pub mod Copies
