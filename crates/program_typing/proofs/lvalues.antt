pub mod Variables
pub mod Fields
pub mod Parts
