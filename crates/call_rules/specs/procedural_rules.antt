pub mod Through
pub mod Values
pub mod Laws
