-- What crates above this one cite of those below it, by one name.
pub use Rattle.units_well_formed.specs.routines.Laws.{PartsKeep, StaysRead}
pub use Rattle.units_well_formed.specs.routines.Reading.{IsAnnounced, IsBlock, IsBody, IsBottom, IsGlobalIn, IsOwn, IsOwnRoutine, IsRead, IsStage, IsTabled, locals_of, scope_of, tree_of}
pub use Rattle.units_well_formed.specs.routines.Rooms.{Grows, HasRoom}
pub use Rattle.units_well_formed.specs.routines.Trees.{HasBodies, HaveBodies, IsKept, names_in, variables_in, variables_of}
pub use Rattle.declarations_well_formed.specs.values.Literals.{AreWritten, HasLiterals}
pub use Rattle.declarations_well_formed.specs.values.Values.{HasValues, IsConstantIn}
pub use Rattle.declarations_well_formed.specs.bodies_well_formed.other_units.Growing.{Extends}
pub use Rattle.declarations_well_formed.specs.bodies_well_formed.other_units.Known.{AreKnown, AreNested, EachIn, EachOf, IsAtDepth, IsDeclaredIn, IsDeep, IsEntry, IsVariableIn, first_in, levels_in, open_from, open_in, opening, scope_over, variables_at}
pub use Rattle.declarations_well_formed.specs.bodies_well_formed.other_units.Others.{others_of}
