pub use Rattle.well_formed.proofs as well_formed_proofs
