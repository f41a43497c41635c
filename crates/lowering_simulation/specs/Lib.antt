pub mod Meets
pub mod Waits
pub mod Laws
pub mod Nodes
pub mod Routines
pub mod Loops
pub mod Programs
pub mod Examples
