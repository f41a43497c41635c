pub mod Blocks
pub mod Opened
pub mod Asked
pub mod Targets
pub mod Counting
pub mod Performing
pub mod Running
pub mod Checked
