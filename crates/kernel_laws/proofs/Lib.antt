pub mod Starts
pub mod Errors
pub mod Kernels
