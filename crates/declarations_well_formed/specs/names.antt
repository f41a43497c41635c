pub mod Declaring
pub mod Laws
