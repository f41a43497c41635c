pub mod Steps
pub mod Straight
pub mod Words
pub mod Example
