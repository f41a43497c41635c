pub use Rattle.call_rules.specs as call_rules
pub use Rattle.tp_check_stmt.specs.common_values as common_values
pub use Rattle.tp_check_stmt.specs.constant_checker as constant_checker
pub use Rattle.declaration_checker.specs as declaration_checker
pub use Rattle.pascal_grammar.specs.ll1_grammar as ll1_grammar
pub use Rattle.pascal_grammar.specs as pascal_grammar
pub use Rattle.scopes.specs as scopes
pub use Rattle.syntax_tree.specs as syntax_tree
pub use Rattle.tp_check_stmt.specs as tp_check_stmt
pub use Rattle.tp_lexer.specs as tp_lexer
pub use Rattle.type_layout.specs as type_layout
pub use Rattle.typed_tree.specs as typed_tree
pub use Rattle.typing_rules.specs as typing_rules
pub use Rattle.unit_interface.specs as unit_interface
pub mod Units
pub mod Limits
pub mod Fronts
pub mod Endings
pub mod Programs
pub mod Interfaces
pub mod Shown
pub mod Checked
pub mod Laws
pub mod routines
