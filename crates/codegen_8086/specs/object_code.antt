pub mod References
pub mod Objects
pub mod Resolved
pub mod Named
