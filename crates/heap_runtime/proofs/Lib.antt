pub mod Works
pub mod Places
pub mod Leaves
pub mod Reached
pub mod Starting
