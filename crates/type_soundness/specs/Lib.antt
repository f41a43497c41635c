pub use Rattle.program_typing.specs.object_vmt as object_vmt
pub use Rattle.program_typing.specs as program_typing
pub use Rattle.program_typing.specs.store_typing as store_typing
pub use Rattle.program_typing.specs.tp_meaning as tp_meaning
pub use Rattle.program_typing.specs.type_layout as type_layout
pub use Rattle.program_typing.specs.typed_tree as typed_tree
pub use Rattle.program_typing.specs.well_formed as well_formed
pub mod expressions
pub mod programs
pub mod starts
pub mod statements
