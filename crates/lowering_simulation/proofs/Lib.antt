pub mod Waits
pub mod Meets
pub mod Nodes
pub mod Routines
pub mod Loops
pub mod Programs
pub mod Examples
