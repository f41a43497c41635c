pub mod ListLaws
pub mod Nodes
pub mod Single
pub mod CallLaws
