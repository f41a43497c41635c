pub mod Pointers
pub mod FarCalls
pub mod Through
