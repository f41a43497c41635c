pub mod Closing
pub mod PartLaws
pub mod CountSteps
pub mod Wholes
