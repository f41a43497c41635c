pub use Rattle.tp_check_decl.specs.declaration_checker as declaration_checker
pub use Rattle.tp_check_decl.specs.scopes as scopes
pub use Rattle.tp_check_decl.specs as tp_check_decl
pub use Rattle.tp_check_decl.specs.type_layout as type_layout
pub use Rattle.tp_check_decl.specs.typed_tree as typed_tree
pub use Rattle.tp_check_decl.specs.unit_interface as unit_interface
pub mod constants
pub mod routines
pub mod types
