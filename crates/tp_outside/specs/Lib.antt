pub mod Calls
pub mod Faults
pub mod Folder
pub mod Memory
pub mod MemoryFolder
pub mod Streams
pub mod whole_input
