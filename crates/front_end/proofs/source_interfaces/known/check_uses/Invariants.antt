use Rattle.std.proofs.Common.{ℕ, ◌<◌}
use Rattle.front_end.proofs.source_interfaces.Uses.{IsOnce}
use Rattle.front_end.proofs.source_interfaces.known.check_uses.Given as goal

abbrev pub invariant-loop-place : goal.invariant-loop-place
invariant-loop-place l = (k : ℕ) → k < l.place → IsOnce l.names k
