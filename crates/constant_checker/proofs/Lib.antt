pub use Rattle.call_rules.proofs as call_rules_proofs
pub use Rattle.common_values.proofs as common_values_proofs
pub use Rattle.syntax_tree.proofs as syntax_tree_proofs
pub use Rattle.type_layout.proofs as type_layout_proofs
pub use Rattle.typed_tree.proofs as typed_tree_proofs
pub use Rattle.typing_rules.proofs as typing_rules_proofs
