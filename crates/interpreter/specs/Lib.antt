pub use Rattle.common_values.specs as common_values
pub use Rattle.tp_meaning.specs as tp_meaning
pub use Rattle.type_layout.specs as type_layout
pub use Rattle.typed_tree.specs as typed_tree
pub mod Whole
