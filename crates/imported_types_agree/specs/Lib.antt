pub use Rattle.tables_closed.specs.declaration_checker as declaration_checker
pub use Rattle.tables_closed.specs as tables_closed
pub use Rattle.tables_closed.specs.tp_check_decl as tp_check_decl
pub use Rattle.tables_closed.specs.unit_interface as unit_interface
pub mod compatible_types
pub mod consistent_types
pub mod well_scoped
