pub mod Given
pub mod WellFormed
pub mod Local
pub mod Measured
pub mod FieldPlaces
