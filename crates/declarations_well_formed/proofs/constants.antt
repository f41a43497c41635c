pub mod Kept
pub mod Numbers
pub mod Sets
pub mod Combined
pub mod Functions
pub mod Sizes
pub mod Constants
