pub mod Meeting
pub mod Choosing
pub mod Predicting
pub mod Checking
pub mod Unique
pub mod Whole
pub mod Faults
