pub mod Halves
pub mod Leaves
pub mod Contents
pub mod Pieces
pub mod Tokens
pub mod Lexemes
pub mod Gathered
