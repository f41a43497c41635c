pub mod Nodes
pub mod StandardLaws
mod SizeLaws
