pub mod Headers
pub mod Denoters
pub mod Objects
pub mod Parts
pub mod Headings
pub mod Works
pub mod Trees
