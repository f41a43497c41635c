pub mod Together
pub mod Chains
pub mod First
pub mod PlainCode
