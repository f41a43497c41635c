pub mod code_lines
pub mod code_references
