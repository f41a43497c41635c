pub mod Moved
pub mod Kept
pub mod Arriving
pub mod Faithful
