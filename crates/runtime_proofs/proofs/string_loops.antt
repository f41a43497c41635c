pub mod Seen
pub mod ForwardLoop
pub mod BackwardLoop
pub mod Counts
pub mod Bytes
pub mod Entry
