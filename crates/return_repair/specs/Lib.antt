pub mod Chain
pub mod Follows
pub mod Live
pub mod Pairs
pub mod Repair
pub mod Topmosts
