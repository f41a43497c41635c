pub mod Farness
pub mod Limits
pub mod Lowerable
