use Rattle.std.proofs.Common.{◌≡◌, drop, map, length}
use Rattle.std.specs.Vec.Iter.{into_iter_items, into_iter_len}
use Rattle.typed_tree.specs.Expressions.{view_expr}
use Rattle.call_rules.specs.Lists.{behind}
use Rattle.call_rules.specs.Given.{view_handed}
use Rattle.call_rules.specs.procedure_rules.Procedures.{by_slots}
use Rattle.call_rules.proofs.procedure_rules.calls.by_slots.Given as goal

-- what was made and what is left make the whole
abbrev pub invariant-loop-slot : goal.invariant-loop-slot
invariant-loop-slot l = record {
  goes : behind (map view_handed l.args.items) (by_slots l.types.types l.place (drop l.slot-index l.slots) (map view_expr (into_iter_items l.values))).run
      ≡ (by_slots l.types.types l.place l.slots (map view_expr l.fn.values.items)).run;
  long : into_iter_len l.values ≡ length (into_iter_items l.values);
}
