pub mod Alike
pub mod Programs
