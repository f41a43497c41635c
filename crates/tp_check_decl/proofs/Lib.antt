pub use Rattle.type_layout.proofs as type_layout_proofs
pub use Rattle.unit_interface.proofs as unit_interface_proofs
pub mod CheckLaws
mod Finishing
mod ItemSteps
mod Showing
mod NameLaws
mod UnitLaws
pub mod UsedLaws
