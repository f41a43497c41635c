pub mod Names
pub mod Owners
pub mod Calls
pub mod Typed
pub mod Laws
