use Rattle.std.proofs.Common.{◌≡◌, take}
use Rattle.unit_interface.specs.Exports.{edges_from}
use Rattle.unit_interface.proofs.reach.type_edges.Given as goal

abbrev pub invariant-loop-number : goal.invariant-loop-number
invariant-loop-number l = l.edges.items ≡ edges_from l.types.types 0 (take l.number l.types.types)
