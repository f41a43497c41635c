pub mod Bases
pub mod Sets
pub mod Laws
