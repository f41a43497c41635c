pub mod Trees
pub mod Additions
pub mod Denoters
pub mod Laws
