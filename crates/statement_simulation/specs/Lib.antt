pub mod expressions
pub mod flow
pub mod stores
