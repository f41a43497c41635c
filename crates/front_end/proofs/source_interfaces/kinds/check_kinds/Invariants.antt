use Rattle.std.proofs.Common.{ℕ, ◌<◌}
use Rattle.front_end.proofs.source_interfaces.Uses.{IsKindAt}
use Rattle.front_end.proofs.source_interfaces.kinds.check_kinds.Given as goal

abbrev pub invariant-loop-place : goal.invariant-loop-place
invariant-loop-place l = (k : ℕ) → k < l.place → IsKindAt l.sources k
