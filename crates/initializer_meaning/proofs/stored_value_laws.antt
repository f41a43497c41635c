pub mod Ordinals
pub mod Strings
pub mod Sets
