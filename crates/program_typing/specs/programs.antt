pub mod Outcomes
pub mod References
pub mod Statements
pub mod Tasks
pub mod WellTyped
pub mod Calls
pub mod Example
pub mod Laws
