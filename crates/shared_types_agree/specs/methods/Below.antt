-- What crates above this one cite of those below it, by one name.
pub use Rattle.shared_types_agree.specs.programs.Below.{AreInOrder, AreOfKinds, IsDone, IsProgram, IsShownIn, IsTypedAs, IsUnitOf, ShowsAlike, Whole, all_declared, all_used, declarations_judged, declared, empty_draft, ended, interface_judged, items_of, outer_scope, outer_units, sources_at, unit_site, view_unit, with_nothing_else}
pub use Rattle.shared_types_agree.specs.programs.Laws.{ConsistencyLaw, ClassesLaw, DeclarersLaw, IsKeptTable, ListedLaw}
pub use Rattle.shared_types_agree.specs.programs.Methods.{AreOnce, HasDeclaredMethods}
pub use Rattle.units_well_formed.specs.units.Begun.{IsRoomy, IsSource, interface_variables}
pub use Rattle.units_well_formed.specs.units.Below.{names_in, others_of, variables_in, variables_of}
pub use Rattle.units_well_formed.specs.units.Laws.{end_scope}
