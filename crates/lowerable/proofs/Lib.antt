pub mod Bounds
pub mod FoundRoutines
pub mod Gives
pub mod Lists
pub mod Trees
