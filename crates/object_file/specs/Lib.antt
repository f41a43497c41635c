pub mod Text
pub mod Reading
pub mod file_parts
pub mod object_unit
