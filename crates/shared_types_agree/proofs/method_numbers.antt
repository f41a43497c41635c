pub mod Tables
pub mod Scopes
pub mod Units
pub mod Programs
