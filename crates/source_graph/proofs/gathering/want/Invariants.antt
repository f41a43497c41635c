use Rattle.std.proofs.Common.{◌≡◌, ◌≤◌, ◌++◌, drop, length}
use Rattle.std.specs.Prelude.{map}
use Rattle.source_graph.specs.Walk.{wanted_at}
use Rattle.source_graph.proofs.gathering.want.Given as goal

abbrev pub invariant-loop-number : goal.invariant-loop-number
invariant-loop-number l = (l.number ≤ length l.uses) × (l.wanted.items ≡ map wanted_at (drop l.number l.uses) ++ l.initial.wanted.items)

abbrev pub decreases-loop-number : goal.decreases-loop-number
decreases-loop-number l = l.number
