pub mod Going
pub mod Listing
pub mod Rows
pub mod Sound
pub mod Values
