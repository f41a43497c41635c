pub mod Values
pub mod Makers
pub mod Unmakers
