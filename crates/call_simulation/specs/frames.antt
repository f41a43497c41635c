pub mod Callee
pub mod Chain
pub mod Moves
