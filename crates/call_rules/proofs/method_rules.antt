pub mod LineLaws
pub mod SlotSteps
pub mod Nodes
pub mod MethodLaws
