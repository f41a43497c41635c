-- What crates above this one cite of those below it, by one name.
pub use Rattle.units_well_formed.proofs.parts.Below.{Ends, IsMethodFrom, all_grow, below_names, blocks_join, closed_bottom, closed_each, ends, entered_is, extends_itself, finished_at, finished_kept, found_inner, global_told_from, heading_grows, inside_keeps, method_told, more_bottom, named_bottom, named_each, outer_end, part_grows, routine_told_from, snoc_at, snoc_last, unit_among, unit_told_from}
pub use Rattle.units_well_formed.proofs.parts.Closed.{known_closed}
pub use Rattle.units_well_formed.proofs.parts.Names.{names_bottom, names_each}
pub use Rattle.units_well_formed.proofs.parts.Awaiting.{Awaits, IsMethodAt, behind_at, joined_at, nothing_at, plain_awaits, some_object}
pub use Rattle.units_well_formed.proofs.parts.Objects.{plain_types, types_await}
pub use Rattle.units_well_formed.proofs.parts.Rows.{constants_plain_part}
pub use Rattle.units_well_formed.proofs.parts.Tables.{AddsPlain, ArePlain, entered_plain, fields_plain, none_added, placed, plain_at, plain_then, type_plain}
pub use Rattle.declarations_well_formed.proofs.tp_check_decl_proofs.CheckLaws.{lawful_outlined}
