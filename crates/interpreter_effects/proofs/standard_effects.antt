pub mod Joined
pub mod Table
pub mod Told
