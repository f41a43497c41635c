-- What crates above this one cite of those below it, by one name.
pub use Rattle.shared_types_agree.proofs.programs.Below.{Grows, GrowsTo, all_grow, each_told, grown, interface_grows, named_by, read_grows, shown_some, stands, told_within}
pub use Rattle.shared_types_agree.proofs.programs.Keys.{declared_at}
pub use Rattle.shared_types_agree.proofs.programs.Units.{AreUsedSo, IsConsistentTable, ended_types, of_source, typed_name, used_so}
pub use Rattle.shared_types_agree.proofs.programs.Whole.{contains_at, listed, not_system, typed_at}
pub use Rattle.units_well_formed.proofs.units.Below.{IsMethodFrom, global_told_from, heading_grows, method_told, part_grows, routine_told_from, unit_told_from}
