pub mod Expressions
pub mod Statements
pub mod Shapes
pub mod Regrouped
pub mod Types
pub mod Initializers
pub mod Declarations
