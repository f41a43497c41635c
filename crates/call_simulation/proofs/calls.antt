pub mod Near
pub mod Far
pub mod Own
pub mod Entered
pub mod Instructions
