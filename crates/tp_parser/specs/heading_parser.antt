pub mod Starting
pub mod Reading
