-- What crates above this one cite of those below it, by one name.
pub use Rattle.units_well_formed.specs.units.Begun.{EachUse, FurtherKeep, IsBegun, IsJoined, IsRoomy, IsSource, UsesKeep, further_uses}
pub use Rattle.units_well_formed.specs.units.Below.{EachIn, EachOf, HasRoom, IsBottom, IsConstantIn, IsRead, IsTypedAs, PartLaw, PartsKeep, Shows, Whole, all_declared, empty_draft, further_used, interface_judged, item_of, items_by, items_in, items_of, outlined, scope_of, unit_front, unit_site, view_unit, whole, with_nothing_else}
pub use Rattle.units_well_formed.specs.units.Laws.{AreOverlay, BareLaw, IsFormedIn, SourceLaw, UsedLaw, end_scope}
pub use Rattle.units_well_formed.specs.declarations_well_formed.exported_constants.Agreed.{AreFixed, AreOwnConstants, IsKnownOf, IsWhole, twice}
pub use Rattle.units_well_formed.specs.declarations_well_formed.exported_constants.Laws.{ShownConstants}
