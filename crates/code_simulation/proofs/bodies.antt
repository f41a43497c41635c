pub mod Frames
pub mod Calls
pub mod Statements
pub mod Induction
