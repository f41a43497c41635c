pub mod Pieces
pub mod Laid
pub mod Counts
