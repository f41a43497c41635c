pub mod Uses
pub mod Extended
pub mod Deep
pub mod Rounds
pub mod Steps
