pub mod Reading
pub mod Rooms
pub mod Trees
pub mod Laws
