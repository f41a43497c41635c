pub mod Copies
pub mod Regions
pub mod Founds
pub mod Laid
pub mod Stops
pub mod Sizes
pub mod Rounds
