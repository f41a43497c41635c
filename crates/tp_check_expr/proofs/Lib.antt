mod CallSteps
mod DepthLaws
mod ListSteps
pub mod TypedLaws
