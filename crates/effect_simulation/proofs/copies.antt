pub mod Cells
pub mod Moves
pub mod Links
pub mod Segments
pub mod Destinations
pub mod Sources
pub mod Copies
