pub use Rattle.declarations_well_formed.specs.bodies_well_formed as bodies_well_formed
pub use Rattle.declarations_well_formed.specs.call_rules as call_rules
pub use Rattle.declarations_well_formed.specs.constant_checker as constant_checker
pub use Rattle.declarations_well_formed.specs.declaration_checker as declaration_checker
pub use Rattle.declarations_well_formed.specs as declarations_well_formed
pub use Rattle.declarations_well_formed.specs.imported_types_agree as imported_types_agree
pub use Rattle.declarations_well_formed.specs.rules_well_formed as rules_well_formed
pub use Rattle.declarations_well_formed.specs.scopes as scopes
pub use Rattle.declarations_well_formed.specs.syntax_tree as syntax_tree
pub use Rattle.declarations_well_formed.specs.tables_closed as tables_closed
pub use Rattle.declarations_well_formed.specs.tp_check_decl as tp_check_decl
pub use Rattle.declarations_well_formed.specs.tp_lexer as tp_lexer
pub use Rattle.declarations_well_formed.specs.type_layout as type_layout
pub use Rattle.declarations_well_formed.specs.typed_tree as typed_tree
pub use Rattle.declarations_well_formed.specs.typing_rules as typing_rules
pub use Rattle.declarations_well_formed.specs.unit_interface as unit_interface
pub use Rattle.declarations_well_formed.specs.well_formed as well_formed
pub mod parts
pub mod routines
pub mod units
