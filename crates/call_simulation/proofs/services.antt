pub mod Returning
pub mod Services
pub mod Clearing
pub mod Setting
