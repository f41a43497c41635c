pub mod Followed
pub mod Pieces
