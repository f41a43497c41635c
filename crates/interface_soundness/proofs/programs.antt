pub mod Sources
mod Alike
mod Fronts
pub mod Programs
pub mod Missing
pub mod Depth
pub mod Closing
