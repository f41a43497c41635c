pub mod Sound
pub mod Seated
