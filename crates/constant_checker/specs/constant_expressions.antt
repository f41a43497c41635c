pub mod Values
pub mod Functions
pub mod Constructors
pub mod Sizes
pub mod Constants
pub mod Laws
