pub mod Lists
pub mod Tables
pub mod Alike
pub mod Whole
