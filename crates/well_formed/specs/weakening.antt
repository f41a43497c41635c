pub mod Weakening
pub mod Laws
