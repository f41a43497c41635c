pub mod Agreement
pub mod Declared
