pub mod Items
pub mod Shapes
pub mod Sound
pub mod Stepping
