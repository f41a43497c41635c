pub mod Stands
pub mod Acts
pub mod Placed
pub mod ImageLaws
pub mod Whole
pub mod CodeLaws
pub mod Pool
pub mod Sizes
