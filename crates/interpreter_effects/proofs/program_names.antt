pub mod Positions
pub mod Methods
