pub mod Signatures
pub mod Standard
pub mod Sizes
pub mod Laws
