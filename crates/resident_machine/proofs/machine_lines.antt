pub mod Trees
pub mod Steps
pub mod Straight
pub mod Jumps
pub mod Divide
pub mod Words
pub mod Example
