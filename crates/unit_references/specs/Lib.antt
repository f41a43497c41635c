pub use Rattle.type_soundness.specs.object_vmt as object_vmt
pub use Rattle.type_soundness.specs.program_typing as program_typing
pub use Rattle.type_soundness.specs.store_typing as store_typing
pub use Rattle.type_soundness.specs.tp_meaning as tp_meaning
pub use Rattle.type_soundness.specs.type_layout as type_layout
pub use Rattle.type_soundness.specs.typed_tree as typed_tree
pub use Rattle.type_soundness.specs.well_formed as well_formed
pub mod Held
pub mod Units
pub mod Laws
pub mod methods
pub mod programs
