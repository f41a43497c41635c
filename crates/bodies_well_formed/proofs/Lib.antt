pub use Rattle.tp_check_stmt.proofs.call_rules_proofs as call_rules_proofs
pub use Rattle.tp_check_stmt.proofs.common_values_proofs as common_values_proofs
pub use Rattle.tp_check_stmt.proofs.constant_checker_proofs as constant_checker_proofs
pub use Rattle.rules_well_formed.proofs as rules_well_formed_proofs
pub use Rattle.tp_check_stmt.proofs.type_layout_proofs as type_layout_proofs
pub use Rattle.tp_check_stmt.proofs.typing_rules_proofs as typing_rules_proofs
pub use Rattle.rules_well_formed.proofs.well_formed_proofs as well_formed_proofs
