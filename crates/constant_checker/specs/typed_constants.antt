pub mod Trees
pub mod Written
pub mod Initializers
pub mod Laws
