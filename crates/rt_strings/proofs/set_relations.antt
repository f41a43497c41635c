pub mod Bits
pub mod Relating
pub mod Members
