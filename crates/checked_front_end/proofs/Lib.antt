pub use Rattle.programs_well_typed.proofs.interfaces_consistent_proofs as interfaces_consistent_proofs
mod Lines
mod Methods
mod Founds
