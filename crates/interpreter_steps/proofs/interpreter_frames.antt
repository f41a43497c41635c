pub mod Lists
pub mod Again
pub mod Moves
pub mod Framed
