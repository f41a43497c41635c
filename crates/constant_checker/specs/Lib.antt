pub use Rattle.call_rules.specs as call_rules
pub use Rattle.common_values.specs as common_values
pub use Rattle.pascal_grammar.specs.ll1_grammar as ll1_grammar
pub use Rattle.call_rules.specs.object_vmt as object_vmt
pub use Rattle.pascal_grammar.specs as pascal_grammar
pub use Rattle.scopes.specs as scopes
pub use Rattle.syntax_tree.specs as syntax_tree
pub use Rattle.tp_lexer.specs as tp_lexer
pub use Rattle.type_layout.specs as type_layout
pub use Rattle.typed_tree.specs as typed_tree
pub use Rattle.typing_rules.specs as typing_rules
pub mod constant_expressions
pub mod stored_values
pub mod typed_constants
