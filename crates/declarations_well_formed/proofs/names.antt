pub mod Adding
pub mod Types
pub mod Parts
