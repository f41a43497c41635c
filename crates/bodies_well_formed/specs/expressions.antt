pub mod Agreeing
pub mod Literals
pub mod Laws
