pub use Rattle.call_rules.proofs as call_rules_proofs
pub use Rattle.constant_checker.proofs.common_values_proofs as common_values_proofs
pub use Rattle.constant_checker.proofs as constant_checker_proofs
pub use Rattle.type_layout.proofs as type_layout_proofs
pub use Rattle.typing_rules.proofs as typing_rules_proofs
mod InsideLaws
mod NodeViews
mod PartLaws
pub mod StatementLaws
mod TestLaws
mod TreeSteps
