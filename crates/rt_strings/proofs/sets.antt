pub mod SetBytes
pub mod Combining
