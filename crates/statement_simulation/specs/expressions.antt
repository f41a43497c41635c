pub mod Active
pub mod Evaluates
