use Rattle.std.proofs.Common.{◌≡◌, drop, map}
use Rattle.typed_tree.specs.Statements.{view_taken}
use Rattle.syntax_tree.specs.expression_tree.Trees.{view_arguments}
use Rattle.call_rules.specs.Lists.{behind}
use Rattle.tp_check_stmt.specs.Lists.{each}
use Rattle.tp_check_stmt.specs.Standard.{taken_one}
use Rattle.tp_check_stmt.proofs.standard.places.Given as goal

-- what was made and what is left make the whole
abbrev pub invariant-loop-one : goal.invariant-loop-one
invariant-loop-one l =
    behind (map view_taken l.places.items) (each (taken_one l.scope l.here) (view_arguments (drop l.one-index l.given))).run ≡ (each (taken_one l.scope l.here) (view_arguments l.given)).run
