pub mod Opened
pub mod FrameSizes
pub mod Outer
