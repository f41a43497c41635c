pub mod Example
pub mod Sizes
pub mod Weights
