pub mod Moves
pub mod Agreed
pub mod Laws
