pub use Rattle.tp_check_stmt.specs.call_rules as call_rules
pub use Rattle.tp_check_stmt.specs.common_values as common_values
pub use Rattle.tp_check_stmt.specs.constant_checker as constant_checker
pub use Rattle.tp_check_stmt.specs.object_vmt as object_vmt
pub use Rattle.rules_well_formed.specs as rules_well_formed
pub use Rattle.tp_check_stmt.specs.scopes as scopes
pub use Rattle.tp_check_stmt.specs.syntax_tree as syntax_tree
pub use Rattle.tp_check_stmt.specs.tp_lexer as tp_lexer
pub use Rattle.tp_check_stmt.specs.type_layout as type_layout
pub use Rattle.tp_check_stmt.specs.typed_tree as typed_tree
pub use Rattle.tp_check_stmt.specs.typing_rules as typing_rules
pub use Rattle.rules_well_formed.specs.well_formed as well_formed
pub mod expressions
pub mod other_units
pub mod statements
