pub mod Bytes
pub mod Raising
