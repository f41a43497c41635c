pub mod Peeking
pub mod InputLemmas
pub mod InputReading
pub mod LineReading
