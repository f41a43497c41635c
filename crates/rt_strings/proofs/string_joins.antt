pub mod Joining
pub mod Inserting
