pub use Rattle.address_independence.specs as address_independence
pub use Rattle.front_end.specs.declaration_checker as declaration_checker
pub use Rattle.front_end.specs as front_end
pub use Rattle.imported_types_agree.specs as imported_types_agree
pub use Rattle.front_end.specs.object_vmt as object_vmt
pub use Rattle.front_end.specs.scopes as scopes
pub use Rattle.front_end.specs.source_graph as source_graph
pub use Rattle.front_end.specs.syntax_tree as syntax_tree
pub use Rattle.front_end.specs.tp_check_decl as tp_check_decl
pub use Rattle.front_end.specs.tp_lexer as tp_lexer
pub use Rattle.front_end.specs.tp_outside as tp_outside
pub use Rattle.front_end.specs.type_layout as type_layout
pub use Rattle.front_end.specs.typed_tree as typed_tree
pub use Rattle.front_end.specs.typing_rules as typing_rules
pub use Rattle.front_end.specs.unit_interface as unit_interface
pub mod interfaces
pub mod programs
pub mod tables
