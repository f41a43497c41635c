pub mod Readers
pub mod Storage
pub mod FirstTreeLaws
