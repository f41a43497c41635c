pub use Rattle.unit_references.specs.program_typing as program_typing
pub use Rattle.unit_references.specs.store_typing as store_typing
pub use Rattle.unit_references.specs.tp_meaning as tp_meaning
pub use Rattle.unit_references.specs.type_layout as type_layout
pub use Rattle.unit_references.specs.typed_tree as typed_tree
pub mod Sample
pub mod Laws
