use Rattle.std.proofs.Common.{ℕ, ◌<◌}
use Rattle.unit_interface.proofs.ResolveLaws.{IsOnce, IsFound}
use Rattle.unit_interface.proofs.resolving.check_uses.Given as goal

abbrev pub invariant-loop-place : goal.invariant-loop-place
invariant-loop-place l = record {
  once : (place : ℕ) → place < l.place → IsOnce l.uses place;
  there : (place : ℕ) → place < l.place → IsFound l.have l.uses place;
}
