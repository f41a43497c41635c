pub mod Each
pub mod Values
pub mod Ready
pub mod Steps
pub mod Given
