pub use Rattle.tables_closed.proofs as tables_closed_proofs
pub use Rattle.tables_closed.proofs.tp_check_decl_proofs as tp_check_decl_proofs
pub use Rattle.tables_closed.proofs.unit_interface_proofs as unit_interface_proofs
