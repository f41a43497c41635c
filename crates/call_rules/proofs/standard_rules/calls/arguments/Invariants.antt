use Rattle.std.proofs.Common.{◌≡◌, ◌++◌, map, length}
use Rattle.std.specs.Vec.Iter.{into_iter_items, into_iter_len}
use Rattle.typed_tree.specs.Expressions.{view_expr}
use Rattle.call_rules.specs.Given.{view_handed}
use Rattle.call_rules.specs.standard_rules.Standard.{handed}
use Rattle.call_rules.proofs.standard_rules.calls.arguments.Given as goal

abbrev pub invariant-loop-value : goal.invariant-loop-value
invariant-loop-value l = record {
  made : map view_handed l.args.items ≡ map (handed l.types.types l.text) (map view_expr l.yielded);
  whole : l.yielded ++ into_iter_items l.value-iterator ≡ into_iter_items l.initial.value-iterator;
  long : into_iter_len l.value-iterator ≡ length (into_iter_items l.value-iterator);
}
