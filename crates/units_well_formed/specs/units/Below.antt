-- What crates above this one cite of those below it, by one name.
pub use Rattle.units_well_formed.specs.parts.Below.{AreKnown, AreWritten, EachIn, EachOf, HasBodies, HasRoom, HaveBodies, IsBottom, IsConstantIn, IsDeep, IsEntry, IsKept, IsOwn, IsOwnRoutine, IsRead, IsTabled, IsVariableIn, PartsKeep, names_in, open_in, opening, others_of, scope_of, tree_of, variables_in, variables_of}
pub use Rattle.units_well_formed.specs.parts.Laws.{PartLaw}
pub use Rattle.declarations_well_formed.specs.bodies_well_formed.statements.Trees.{HasLiterals, HaveInBranches, HaveLiterals, depth_among, depth_in, depth_of}
pub use Rattle.declarations_well_formed.specs.tp_check_decl.Checked.{IsTypedAs}
pub use Rattle.declarations_well_formed.specs.tp_check_decl.Endings.{all_finished, ended, finished_by, main_judged}
pub use Rattle.declarations_well_formed.specs.tp_check_decl.Interfaces.{all_declared, all_used, declared, further_used, interface_judged, item_of, items_by, items_in, items_of, unit_front}
pub use Rattle.declarations_well_formed.specs.tp_check_decl.Programs.{declarations_judged, empty_draft, unit_site}
pub use Rattle.declarations_well_formed.specs.tp_check_decl.Shown.{Shows, outlined, with_nothing_else}
pub use Rattle.declarations_well_formed.specs.tp_check_decl.Units.{Finished, Whole, view_routine, view_unit, whole}
