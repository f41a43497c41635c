use Rattle.std.proofs.Common.{◌≡◌, ◌++◌, map, drop}
use Rattle.typed_tree.specs.Expressions.{view_elements, view_args}
use Rattle.flat_code.specs.Plain.{view_datum}
use Rattle.lower_places.specs.Data.{literals_of_elements, literals_of_arguments}
use Rattle.lower_stmt.proofs.literals.+literals.Given as goal

abbrev pub invariant-add_elements-loop-element : goal.invariant-add_elements-loop-element
invariant-add_elements-loop-element l =
    map view_datum l.initial.made ++ literals_of_elements (view_elements l.elements)
    ≡ map view_datum l.made ++ literals_of_elements (view_elements (drop l.element-index l.elements))

abbrev pub invariant-add_args-loop-arg : goal.invariant-add_args-loop-arg
invariant-add_args-loop-arg l =
    map view_datum l.initial.made ++ literals_of_arguments (view_args l.args)
    ≡ map view_datum l.made ++ literals_of_arguments (view_args (drop l.arg-index l.args))
