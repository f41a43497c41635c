pub mod Rows
pub mod Procedures
pub mod Laws
