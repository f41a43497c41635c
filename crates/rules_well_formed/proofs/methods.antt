pub mod Lines
pub mod Bound
pub mod Calls
pub mod Through
