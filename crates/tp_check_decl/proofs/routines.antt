pub mod HeaderTests
pub mod RoutineLaws
pub mod Views
pub mod Steps
pub mod MethodSteps
