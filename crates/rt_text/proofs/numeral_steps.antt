pub mod Widening
pub mod Digits
pub mod Stepping
pub mod Signing
