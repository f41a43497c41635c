pub mod Symbols
pub mod Members
pub mod Lines
pub mod Growth
pub mod Environment
pub mod Predeclared
