pub use Rattle.scopes.specs as scopes
pub use Rattle.type_layout.specs as type_layout
pub use Rattle.typed_tree.specs as typed_tree
pub mod Uses
pub mod Circles
pub mod Order
pub mod Merge
pub mod Misfits
pub mod Resolve
pub mod Exports
pub mod Keyed
pub mod Fitting
