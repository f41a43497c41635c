mod Taken
mod Lines
pub mod Slots
