-- The same for names that stand in Below already, of other modules.
pub use Rattle.shared_types_agree.proofs.programs.Below.{new_of, of_source, units}
pub use Rattle.units_well_formed.proofs.units.Below.{all_grow}
