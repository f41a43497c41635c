pub mod bodies
pub mod start
