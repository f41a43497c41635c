pub mod Literals
pub mod Values
pub mod Laws
