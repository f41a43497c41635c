pub mod Activation
pub mod Straight
pub mod Comes
pub mod Entry
pub mod Specifications
