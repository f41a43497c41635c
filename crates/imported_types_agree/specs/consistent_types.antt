pub mod Consistency
pub mod Laws
