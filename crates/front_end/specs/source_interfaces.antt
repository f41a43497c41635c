pub mod Interfaces
pub mod Kinds
pub mod Scopes
