pub mod Promised
pub mod Objects
pub mod Parts
pub mod Laws
