pub mod Reading
pub mod Giving
