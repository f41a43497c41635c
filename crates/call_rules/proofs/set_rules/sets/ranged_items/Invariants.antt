use Rattle.std.proofs.Common.{◌≡◌, ◌++◌, map, length}
use Rattle.std.specs.Vec.Iter.{into_iter_items, into_iter_len}
use Rattle.call_rules.specs.set_rules.Sets.{view_item, ranged_item}
use Rattle.call_rules.proofs.set_rules.sets.ranged_items.Given as goal

abbrev pub invariant-loop-item : goal.invariant-loop-item
invariant-loop-item l = record {
  made : map view_item l.made.items ≡ map (ranged_item l.checked) (map view_item l.yielded);
  whole : l.yielded ++ into_iter_items l.item-iterator ≡ into_iter_items l.initial.item-iterator;
  long : into_iter_len l.item-iterator ≡ length (into_iter_items l.item-iterator);
}
