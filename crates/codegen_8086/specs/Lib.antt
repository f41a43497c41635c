pub mod Causes
pub mod generate_code
pub mod object_code
pub mod object_sizes
