use Rattle.std.proofs.Common.{◌≡◌, ◌++◌, drop}
use Rattle.codegen_8086.specs.object_code.References.{refs_at}
use Rattle.codegen_8086.proofs.references.refs_at.Given as goal

abbrev pub invariant-loop-number : goal.invariant-loop-number
invariant-loop-number l = l.refs ++ refs_at l.names (drop l.number l.places) (drop l.number l.lines) ≡ refs_at l.names l.places l.lines
