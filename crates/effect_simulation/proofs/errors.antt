pub mod Spelled
pub mod Digits
pub mod Turns
pub mod Texts
pub mod Whole
