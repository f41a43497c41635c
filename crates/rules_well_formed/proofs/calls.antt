pub mod Casts
pub mod Given
pub mod Calls
