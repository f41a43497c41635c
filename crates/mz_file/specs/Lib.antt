pub mod Cause
pub mod Format
pub mod Load
pub mod Spelling
pub mod Words
