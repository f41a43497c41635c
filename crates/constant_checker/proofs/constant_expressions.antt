mod CallSteps
pub mod ConstantLaws
mod SetLaws
