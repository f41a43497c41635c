pub mod Methods
pub mod Consistency
pub mod Laws
pub mod Below
