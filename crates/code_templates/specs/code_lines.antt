pub mod Addresses
pub mod Operands
pub mod Expressions
pub mod Lines
pub mod Example
