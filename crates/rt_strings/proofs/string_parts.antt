pub mod Copying
pub mod Deleting
pub mod Letters
