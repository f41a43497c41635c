pub mod HeaderTests
pub mod ProceduralLaws
mod Nodes
