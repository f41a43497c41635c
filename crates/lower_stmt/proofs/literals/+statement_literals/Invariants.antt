use Rattle.std.proofs.Common.{◌≡◌, ◌++◌, map, drop}
use Rattle.typed_tree.specs.Statements.{view_stmts, view_arms}
use Rattle.flat_code.specs.Plain.{view_datum}
use Rattle.lower_places.specs.Data.{literals_in_all, literals_in_arms}
use Rattle.lower_stmt.proofs.literals.+statement_literals.Given as goal

abbrev pub invariant-add_stmts-loop-stmt : goal.invariant-add_stmts-loop-stmt
invariant-add_stmts-loop-stmt l =
    map view_datum l.initial.made ++ literals_in_all (view_stmts l.statements)
    ≡ map view_datum l.made ++ literals_in_all (view_stmts (drop l.stmt-index l.statements))

abbrev pub invariant-add_arms-loop-arm : goal.invariant-add_arms-loop-arm
invariant-add_arms-loop-arm l =
    map view_datum l.initial.made ++ literals_in_arms (view_arms l.arms)
    ≡ map view_datum l.made ++ literals_in_arms (view_arms (drop l.arm-index l.arms))
