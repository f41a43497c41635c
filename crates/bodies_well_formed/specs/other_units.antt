pub mod Known
pub mod Others
pub mod Growing
pub mod Laws
