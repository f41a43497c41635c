pub mod Full
pub mod Expressions
pub mod Statements
pub mod Depths
pub mod Declarations
pub mod Trees
