pub mod Nodes
pub mod SetLaws
