pub mod Operands
pub mod Numbers
pub mod Effects
