use Rattle.std.proofs.Common.{◌≡◌, [], drop, map}
use Rattle.typed_tree.specs.Statements.{view_stmt}
use Rattle.syntax_tree.specs.statement_tree.Trees.{view_statements, view_arms}
use Rattle.call_rules.specs.Lists.{behind}
use Rattle.tp_check_stmt.specs.Typed.{view_arm, listed, branched}
use Rattle.tp_check_stmt.proofs.statements.+parts.Given as goal

-- what was made and what is left make the whole
abbrev pub invariant-listed-loop-statement : goal.invariant-listed-loop-statement
invariant-listed-loop-statement l = record {
  goes : behind (map view_stmt l.all.items) (listed l.fn.scope (view_statements (drop l.statement-index l.statements))).run ≡ (listed l.fn.scope (view_statements l.statements)).run;
  unchanged : l.scope ≡ l.fn.scope;
}

abbrev pub invariant-branched-loop-arm : goal.invariant-branched-loop-arm
invariant-branched-loop-arm l = record {
  goes : behind (map view_arm l.all.items) (branched l.fn.scope l.sort l.seen.items (view_arms (drop l.arm-index l.arms))).run ≡ (branched l.fn.scope l.sort [] (view_arms l.arms)).run;
  unchanged : l.scope ≡ l.fn.scope;
}
