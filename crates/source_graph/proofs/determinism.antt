pub mod Uses
pub mod Refusals
pub mod Readings
