pub mod Units
pub mod Programs
