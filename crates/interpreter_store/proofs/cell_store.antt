pub mod Rows
pub mod Exchanges
pub mod Texts
pub mod Stores
pub mod Heaps
