use Rattle.std.proofs.Common.{◌≡◌, drop, map, length}
use Rattle.std.specs.Vec.Iter.{into_iter_items, into_iter_len}
use Rattle.typed_tree.specs.Expressions.{view_expr}
use Rattle.call_rules.specs.Lists.{behind}
use Rattle.call_rules.specs.Given.{view_handed, given}
use Rattle.call_rules.proofs.arguments.given.Given as goal

-- what was made and what is left make the whole
abbrev pub invariant-loop-param : goal.invariant-loop-param
invariant-loop-param l = record {
  goes : behind (map view_handed l.args.items) (given l.types.types l.place l.checked (drop l.param-index l.params) (map view_expr (into_iter_items l.values))).run
      ≡ (given l.types.types l.place l.checked l.params (map view_expr l.fn.values.items)).run;
  long : into_iter_len l.values ≡ length (into_iter_items l.values);
}
