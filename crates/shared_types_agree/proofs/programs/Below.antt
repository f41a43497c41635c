-- What crates above this one cite of those below it, by one name.
pub use Rattle.interfaces_consistent.proofs.interface_soundness_proofs.interfaces.AgreementLaws.{interface_grows, read_grows}
pub use Rattle.interfaces_consistent.proofs.interface_soundness_proofs.interfaces.Growing.{Grows, GrowsTo, grown}
pub use Rattle.interfaces_consistent.proofs.interface_soundness_proofs.interfaces.RoutinesGrow.{all_grow}
pub use Rattle.interfaces_consistent.proofs.interface_soundness_proofs.interfaces.UsesGrow.{used_grows}
pub use Rattle.interfaces_consistent.proofs.interface_soundness_proofs.programs.Closing.{new_of, units}
pub use Rattle.interfaces_consistent.proofs.interface_soundness_proofs.programs.Depth.{AreUses, IsOf, IsUse, all_inherited, inherited, of_source}
pub use Rattle.interfaces_consistent.proofs.interface_soundness_proofs.programs.Sources.{named_by, shown_some, stands}
pub use Rattle.interfaces_consistent.proofs.interfaces.Inherited.{each_told, told_within}
