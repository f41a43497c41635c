pub mod Starting
pub mod Reading
pub mod Whole
pub mod Parsing
pub mod declaration_parser
pub mod heading_parser
