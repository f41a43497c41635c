pub mod Laid
pub mod Reach
pub mod Refs
