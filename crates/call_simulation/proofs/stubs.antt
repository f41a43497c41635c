pub mod Refused
pub mod Stubs
