pub mod Table
pub mod Seats
pub mod Ring
