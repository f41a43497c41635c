-- The same for names that stand in Below already, of other modules.
pub use Rattle.units_well_formed.proofs.parts.Below.{plain_at}
