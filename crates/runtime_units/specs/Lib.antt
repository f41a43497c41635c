pub mod Units
pub mod Specifications
pub mod Bounds
pub mod PlainCode
pub mod numbers
