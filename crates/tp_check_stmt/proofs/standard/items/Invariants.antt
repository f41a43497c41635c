use Rattle.std.proofs.Common.{◌≡◌, drop, map}
use Rattle.typed_tree.specs.Statements.{view_written}
use Rattle.syntax_tree.specs.expression_tree.Trees.{view_arguments}
use Rattle.call_rules.specs.Lists.{behind}
use Rattle.tp_check_stmt.specs.Lists.{each}
use Rattle.tp_check_stmt.specs.Standard.{item}
use Rattle.tp_check_stmt.proofs.standard.items.Given as goal

-- what was made and what is left make the whole
abbrev pub invariant-loop-one : goal.invariant-loop-one
invariant-loop-one l =
    behind (map view_written l.items.items) (each (item l.scope) (view_arguments (drop l.one-index l.given))).run ≡ (each (item l.scope) (view_arguments l.given)).run
