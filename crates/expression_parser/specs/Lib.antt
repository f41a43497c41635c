pub mod Gives
pub mod Starting
pub mod Reading
pub mod Views
pub mod Spelled
pub mod statement_parser
