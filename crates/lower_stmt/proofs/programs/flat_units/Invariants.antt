use Rattle.std.proofs.Common.{◌≡◌, ◌+◌, length}
use Rattle.lower_stmt.proofs.programs.flat_units.Given as goal

abbrev pub invariant-loop-one : goal.invariant-loop-one
invariant-loop-one l = length l.flat.items ≡ 3 + l.one-index
