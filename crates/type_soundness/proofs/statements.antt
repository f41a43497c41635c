pub mod Flows
pub mod Inputs
pub mod Writes
pub mod Loops
pub mod Frees
pub mod Statements
