pub mod leaves
pub mod sources
