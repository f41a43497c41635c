pub mod Names
pub mod Members
pub mod Called
pub mod Checked
