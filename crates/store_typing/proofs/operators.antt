pub mod Ranges
pub mod Stored
pub mod OperandKinds
pub mod Operators
