pub mod Allocations
pub mod Laws
