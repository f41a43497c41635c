pub mod calls
pub mod frames
pub mod indirect_calls
pub mod services
pub mod steps
