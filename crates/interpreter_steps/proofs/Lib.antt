pub mod Ends
pub mod Entered
pub mod Effects
pub mod Begun
