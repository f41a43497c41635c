pub mod Faithful
pub mod Laws
pub mod Below
