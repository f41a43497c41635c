use Rattle.std.proofs.Common.{◌++◌}
use Rattle.std.specs.List.{flat_map}
use Rattle.unit_file.specs.type_file.Text.{entry_text, entries_of}
use Rattle.unit_file.proofs.type_file.OptionLaws.{options-at, entries-next}
use Rattle.unit_file.proofs.type_file.writing.push_each_type.Goals as goal

pub push_entry-requires : goal.push_entry-requires
push_entry-requires c = options-at c.args.types.now c.loop-k.k c.get-one.result.now c.requires c.get-one.ensures

pub loop-k-preserved : goal.loop-k-preserved
loop-k-preserved c =
    entries-next c.args.types.now c.units-units.result.now c.loop-k.k c.get-one.result.now (record { unit = c.origin-unit.result.0; number = c.origin-unit.result.1 }) c.index-units-unit.result c.loop-k.bytes c.push_entry.new.bytes (c.args.bytes.now ++ flat_map entry_text (entries_of c.args.types.now))
    c.count-count.ensures.well_formed c.units-units.ensures c.get-one.ensures c.origin-unit.ensures c.index-units-unit.is c.in_ok-push_entry.ensures c.loop-k.invariant
