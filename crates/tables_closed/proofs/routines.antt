pub mod Staying
pub mod Declaring
pub mod Routing
