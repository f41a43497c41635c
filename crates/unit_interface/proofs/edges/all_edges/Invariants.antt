use Rattle.std.proofs.Common.{◌≡◌, ◌++◌, take, map}
use Rattle.unit_interface.specs.Uses.{places_of}
use Rattle.unit_interface.proofs.edges.all_edges.Given as goal

abbrev pub invariant-loop-unit : goal.invariant-loop-unit
invariant-loop-unit l = l.edges.items ≡ map (λ unit. places_of l.units unit.interface ++ places_of l.units unit.implementation) (take l.unit-index l.units)
