pub mod FolderLaws
pub mod Prefix
pub mod Known
