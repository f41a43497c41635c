pub mod Whole
pub mod Agreed
pub mod SameForms
pub mod Lines
