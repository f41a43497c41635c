pub mod Runs
pub mod Hypotheses
pub mod Correct
pub mod Compiler
pub mod Slice
pub mod Expressible
pub mod OverlayFiles
