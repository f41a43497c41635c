pub mod Laid
pub mod Shown
pub mod Matching
pub mod Trapping
pub mod Plain
pub mod Managing
pub mod Layout
pub mod Segments
