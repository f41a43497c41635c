pub mod Written
pub mod Values
pub mod Reading
pub mod Trees
pub mod Laws
