pub mod Classes
pub mod Finding
