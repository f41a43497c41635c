pub mod Merged
pub mod Entries
pub mod Brought
pub mod Further
pub mod Own
pub mod Below
