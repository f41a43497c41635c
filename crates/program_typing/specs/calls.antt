pub mod Callees
pub mod Laws
