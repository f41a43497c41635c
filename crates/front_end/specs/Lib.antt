pub use Rattle.tp_check_decl.specs.constant_checker as constant_checker
pub use Rattle.tp_check_decl.specs.declaration_checker as declaration_checker
pub use Rattle.object_vmt.specs as object_vmt
pub use Rattle.scopes.specs as scopes
pub use Rattle.source_graph.specs as source_graph
pub use Rattle.syntax_tree.specs as syntax_tree
pub use Rattle.tp_check_decl.specs as tp_check_decl
pub use Rattle.tp_lexer.specs as tp_lexer
pub use Rattle.tp_outside.specs as tp_outside
pub use Rattle.type_layout.specs as type_layout
pub use Rattle.typed_tree.specs as typed_tree
pub use Rattle.typing_rules.specs as typing_rules
pub use Rattle.unit_interface.specs as unit_interface
pub mod Found
pub mod Typed
pub mod Untyped
pub mod outcomes
pub mod refusals
pub mod source_interfaces
