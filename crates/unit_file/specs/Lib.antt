pub mod Format
pub mod Reading
pub mod interface_file
pub mod type_file
