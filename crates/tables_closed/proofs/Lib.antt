pub use Rattle.tp_check_decl.proofs as tp_check_decl_proofs
pub use Rattle.tp_check_decl.proofs.type_layout_proofs as type_layout_proofs
pub use Rattle.tp_check_decl.proofs.unit_interface_proofs as unit_interface_proofs
