pub mod Lists
pub mod Tables
pub mod Samples
pub mod Somes
pub mod Reading
pub mod Laws
