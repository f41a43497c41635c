pub mod Beginning
pub mod Lists
pub mod Loop
pub mod Rows
pub mod Sound
pub mod Steps
