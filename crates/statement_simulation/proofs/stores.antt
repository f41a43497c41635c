pub mod Written
pub mod Stores
