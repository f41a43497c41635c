pub mod Heap
pub mod HeapMemory
pub mod Routines
pub mod Specifications
