use Rattle.std.proofs.Common.{◌≡◌, ◌++◌, map, drop}
use Rattle.typed_tree.specs.Statements.{view_taken}
use Rattle.flat_code.specs.Plain.{view_datum}
use Rattle.lower_places.specs.Data.{literals_of_taken}
use Rattle.lower_stmt.proofs.literals.add_taken.Given as goal

abbrev pub invariant-loop-item : goal.invariant-loop-item
invariant-loop-item l =
    map view_datum l.initial.made ++ literals_of_taken (map view_taken l.items)
    ≡ map view_datum l.made ++ literals_of_taken (map view_taken (drop l.item-index l.items))
