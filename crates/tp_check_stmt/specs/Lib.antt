pub use Rattle.call_rules.specs as call_rules
pub use Rattle.constant_checker.specs.common_values as common_values
pub use Rattle.constant_checker.specs as constant_checker
pub use Rattle.call_rules.specs.object_vmt as object_vmt
pub use Rattle.pascal_grammar.specs as pascal_grammar
pub use Rattle.scopes.specs as scopes
pub use Rattle.syntax_tree.specs as syntax_tree
pub use Rattle.tp_check_expr.specs as tp_check_expr
pub use Rattle.tp_lexer.specs as tp_lexer
pub use Rattle.type_layout.specs as type_layout
pub use Rattle.typed_tree.specs as typed_tree
pub use Rattle.typing_rules.specs as typing_rules
pub mod Lists
pub mod Places
pub mod Asked
pub mod Assignments
pub mod Arguments
pub mod Standard
pub mod Calls
pub mod Labels
pub mod Loops
pub mod Typed
pub mod Laws
