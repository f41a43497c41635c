pub use Rattle.object_vmt.specs as object_vmt
pub use Rattle.type_layout.specs as type_layout
pub use Rattle.typed_tree.specs as typed_tree
pub mod Scopes
pub mod Typed
pub mod WellFormed
pub mod Laws
pub mod Example
pub mod weakening
