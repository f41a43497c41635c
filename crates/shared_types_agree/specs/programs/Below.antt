-- What crates above this one cite of those below it, by one name.
pub use Rattle.interfaces_consistent.specs.front_end.Typed.{IsProgram, IsUnitOf, in_order, sources_at}
pub use Rattle.interfaces_consistent.specs.interface_soundness.programs.Closing.{AreInOrder, ShowsAlike}
pub use Rattle.interfaces_consistent.specs.front_end.source_interfaces.Interfaces.{IsDone, IsShownIn}
pub use Rattle.interfaces_consistent.specs.front_end.source_interfaces.Kinds.{AreOfKinds}
pub use Rattle.interfaces_consistent.specs.front_end.source_interfaces.Scopes.{outer_scope, outer_units}
pub use Rattle.units_well_formed.specs.tp_check_decl.Checked.{IsTypedAs}
pub use Rattle.units_well_formed.specs.tp_check_decl.Endings.{all_finished, ended}
pub use Rattle.units_well_formed.specs.tp_check_decl.Interfaces.{all_declared, all_used, declared, interface_judged, items_of}
pub use Rattle.units_well_formed.specs.tp_check_decl.Programs.{declarations_judged, empty_draft, unit_site}
pub use Rattle.units_well_formed.specs.tp_check_decl.Shown.{outlined, with_nothing_else}
pub use Rattle.units_well_formed.specs.tp_check_decl.Units.{Finished, Whole, finished, view_routine, view_unit}
