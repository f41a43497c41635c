pub mod Parameters
pub mod Regrouped
pub mod Types
pub mod Initializers
