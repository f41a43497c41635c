pub mod Nodes
pub mod ProcedureLaws
mod SlotSteps
