pub use Rattle.units_well_formed.specs.call_rules as call_rules
pub use Rattle.units_well_formed.specs.constant_checker as constant_checker
pub use Rattle.units_well_formed.specs.declaration_checker as declaration_checker
pub use Rattle.units_well_formed.specs.declarations_well_formed as declarations_well_formed
pub use Rattle.interfaces_consistent.specs.front_end as front_end
pub use Rattle.interfaces_consistent.specs as interfaces_consistent
pub use Rattle.unit_references.specs.program_typing as program_typing
pub use Rattle.units_well_formed.specs.scopes as scopes
pub use Rattle.interfaces_consistent.specs.source_graph as source_graph
pub use Rattle.unit_references.specs.store_typing as store_typing
pub use Rattle.units_well_formed.specs.syntax_tree as syntax_tree
pub use Rattle.units_well_formed.specs.tp_check_decl as tp_check_decl
pub use Rattle.units_well_formed.specs.tp_lexer as tp_lexer
pub use Rattle.unit_references.specs.tp_meaning as tp_meaning
pub use Rattle.interfaces_consistent.specs.tp_outside as tp_outside
pub use Rattle.unit_references.specs.type_layout as type_layout
pub use Rattle.unit_references.specs.typed_tree as typed_tree
pub use Rattle.units_well_formed.specs.typing_rules as typing_rules
pub use Rattle.units_well_formed.specs.unit_interface as unit_interface
pub use Rattle.unit_references.specs as unit_references
pub use Rattle.units_well_formed.specs as units_well_formed
pub use Rattle.unit_references.specs.well_formed as well_formed
pub mod method_numbers
pub mod methods
pub mod programs
