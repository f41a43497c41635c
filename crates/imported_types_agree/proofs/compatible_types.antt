pub mod Steps
pub mod Uses
pub mod Own
