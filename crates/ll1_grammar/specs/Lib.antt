pub mod Grammar
pub mod Readers
pub mod Sources
pub mod whole_trees
