pub mod Progress
pub mod Constants
pub mod Variables
pub mod Parts
pub mod Laws
