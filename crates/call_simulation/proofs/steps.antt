pub mod Gives
pub mod Divisions
pub mod Called
pub mod Entering
pub mod Steps
pub mod Callables
