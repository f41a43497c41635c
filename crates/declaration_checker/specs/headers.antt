pub mod Names
pub mod Parameters
pub mod Headers
pub mod Laws
