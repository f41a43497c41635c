pub mod Starting
pub mod Reading
pub mod Views
pub mod initializer_parser
pub mod parameter_parser
