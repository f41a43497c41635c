pub mod Pushed
pub mod Pointers
