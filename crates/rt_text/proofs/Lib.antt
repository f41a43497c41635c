pub mod Works
pub mod Places
pub mod Leaves
pub mod Starting
