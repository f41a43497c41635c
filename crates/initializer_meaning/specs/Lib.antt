pub mod initializer_trees
pub mod stored_value_laws
