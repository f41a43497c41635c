pub mod Slots
pub mod Methods
pub mod Calls
pub mod Laws
