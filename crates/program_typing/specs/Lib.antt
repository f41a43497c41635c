pub use Rattle.store_typing.specs.common_values as common_values
pub use Rattle.well_formed.specs.object_vmt as object_vmt
pub use Rattle.store_typing.specs as store_typing
pub use Rattle.store_typing.specs.tp_meaning as tp_meaning
pub use Rattle.well_formed.specs.type_layout as type_layout
pub use Rattle.well_formed.specs.typed_tree as typed_tree
pub use Rattle.well_formed.specs as well_formed
pub mod calls
pub mod lvalues
pub mod programs
