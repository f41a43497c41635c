-- What crates above this one cite of those below it, by one name.
pub use Rattle.units_well_formed.proofs.routines.Bottoms.{closed_bottom, more_bottom, named_bottom}
pub use Rattle.units_well_formed.proofs.routines.Constants.{opened_values}
pub use Rattle.units_well_formed.proofs.routines.Entered.{entered_is}
pub use Rattle.units_well_formed.proofs.routines.Grown.{all_grow, grows_itself, grows_on, heading_grows, inside_keeps, part_grows, room_before}
pub use Rattle.units_well_formed.proofs.routines.Kept.{all_kept, part_locals, stage_kept}
pub use Rattle.units_well_formed.proofs.routines.Lists.{finished_at, finished_kept, plain_at, plain_trees}
pub use Rattle.units_well_formed.proofs.routines.Opened.{heading_read}
pub use Rattle.units_well_formed.proofs.routines.Steps.{among_itself, each_weaker, extends_itself, extends_on, further_itself, snoc_at, snoc_last}
pub use Rattle.declarations_well_formed.proofs.values.Given.{below_names}
pub use Rattle.declarations_well_formed.proofs.bodies_well_formed_proofs.other_units.Agreeing.{agrees_within}
pub use Rattle.declarations_well_formed.proofs.bodies_well_formed_proofs.other_units.Entering.{Ends, blocks_join, closed_each, ends, named_each, opened_known, outer_end}
pub use Rattle.declarations_well_formed.proofs.bodies_well_formed_proofs.other_units.Finding.{found_inner}
pub use Rattle.declarations_well_formed.proofs.bodies_well_formed_proofs.other_units.Growing.{entry_kept, levels_kept, nested_kept}
pub use Rattle.declarations_well_formed.proofs.bodies_well_formed_proofs.other_units.Others.{IsMethodFrom, IsTold, global_told, global_told_from, method_among, method_told, others_grow, routine_told_from, unit_among, unit_told_from, used_told}
