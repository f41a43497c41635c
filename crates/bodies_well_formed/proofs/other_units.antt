pub mod Frames
pub mod Finding
pub mod Agreeing
pub mod Entering
pub mod Growing
pub mod Members
pub mod Units
pub mod Others
