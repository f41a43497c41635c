pub mod AllocationLaws
mod Nodes
