pub mod effects
pub mod errors
