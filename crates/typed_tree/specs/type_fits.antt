pub mod Fits
pub mod Operators
pub mod Routines
pub mod Standard
pub mod Laws
