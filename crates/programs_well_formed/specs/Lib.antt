pub mod imported_interfaces
pub mod programs
