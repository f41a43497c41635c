pub mod Effects
pub mod Buffer
