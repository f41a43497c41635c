pub mod Files
pub mod Given
pub mod Overlaid
pub mod Refused
pub mod Told
