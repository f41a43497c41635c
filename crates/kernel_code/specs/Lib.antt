pub mod Errors
pub mod Kernel
pub mod Parts
pub mod Start
