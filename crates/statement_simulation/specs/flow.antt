pub mod Sites
pub mod Outcomes
pub mod Lists
