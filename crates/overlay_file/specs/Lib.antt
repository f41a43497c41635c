pub mod Format
pub mod Index
pub mod Parts
pub mod Reading
pub mod Stubs
