pub mod Good
pub mod Bytes
pub mod Fills
pub mod Stood
pub mod Codes
pub mod Named
