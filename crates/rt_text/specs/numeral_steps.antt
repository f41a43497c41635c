pub mod Stages
pub mod Step
pub mod Widening
pub mod Specifications
