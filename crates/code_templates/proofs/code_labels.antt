pub mod Lists
pub mod Labels
