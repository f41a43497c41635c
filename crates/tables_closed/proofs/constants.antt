pub mod Below
pub mod Names
pub mod Headers
pub mod Constants
pub mod Ordering
