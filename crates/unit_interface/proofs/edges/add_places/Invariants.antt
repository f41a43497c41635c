use Rattle.std.proofs.Common.{◌≡◌, ◌++◌, drop}
use Rattle.unit_interface.specs.Uses.{places_of}
use Rattle.unit_interface.proofs.edges.add_places.Given as goal

abbrev pub invariant-loop-name : goal.invariant-loop-name
invariant-loop-name l = l.initial.places ++ places_of l.units l.names ≡ l.places ++ places_of l.units (drop l.name-index l.names)
