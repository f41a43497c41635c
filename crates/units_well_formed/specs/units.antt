pub mod Begun
pub mod Bringing
pub mod Laws
pub mod Below
pub mod BelowMore
