pub mod Worlds
pub mod Places
pub mod Stores
pub mod Laws
