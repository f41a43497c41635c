pub mod Readers
pub mod FirstTrees
pub mod FirstStore
pub mod Started
