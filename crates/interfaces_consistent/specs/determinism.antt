pub mod Folder
pub mod Laws
