pub mod Draws
pub mod Units
pub mod Programs
pub mod Sources
pub mod Laws
