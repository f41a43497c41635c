pub mod Words
pub mod Phases
pub mod Lexemes
