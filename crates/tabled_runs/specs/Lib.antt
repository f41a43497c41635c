pub mod Tables
pub mod Ringed
