use Rattle.std.proofs.Common.{◌≡◌, drop}
use Rattle.typed_tree.specs.Statements.{view_stmts, view_arms}
use Rattle.lowerable.specs.Farness.{are_linkable_statements, are_linkable_arms}
use Rattle.lowerable.proofs.statements.+statements.Given as goal

abbrev pub invariant-are_linkable_statements-loop-stmt : goal.invariant-are_linkable_statements-loop-stmt
invariant-are_linkable_statements-loop-stmt l = are_linkable_statements l.units l.unit (view_stmts l.statements) ≡ are_linkable_statements l.units l.unit (view_stmts (drop l.stmt-index l.statements))

abbrev pub invariant-are_linkable_arms-loop-arm : goal.invariant-are_linkable_arms-loop-arm
invariant-are_linkable_arms-loop-arm l = are_linkable_arms l.units l.unit (view_arms l.arms) ≡ are_linkable_arms l.units l.unit (view_arms (drop l.arm-index l.arms))
