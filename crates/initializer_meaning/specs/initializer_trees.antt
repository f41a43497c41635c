pub mod FirstTrees
pub mod Laws
