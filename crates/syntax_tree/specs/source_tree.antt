pub mod Declarations
pub mod Sources
