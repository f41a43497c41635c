pub mod Words
pub mod Storage
pub mod Layouts
pub mod Table
