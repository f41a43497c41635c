pub mod Ends
pub mod Counting
