use Rattle.std.proofs.Common.{◌≡◌, ◌++◌, drop, map}
use Rattle.syntax_tree.specs.statement_tree.Trees.{view_label}
use Rattle.call_rules.specs.Lists.{behind}
use Rattle.tp_check_stmt.specs.Labels.{labelled}
use Rattle.tp_check_stmt.proofs.labels.labelled.Given as goal

-- what was made and what is left make the whole
abbrev pub invariant-loop-label : goal.invariant-loop-label
invariant-loop-label l = record {
  goes : behind l.ranges.items (labelled l.scope l.sort l.seen.items (map view_label (drop l.label-index l.labels))).run
      ≡ (labelled l.scope l.sort l.fn.seen.items (map view_label l.labels)).run;
  seen : l.seen.items ≡ l.fn.seen.items ++ l.ranges.items;
}
