use Rattle.std.proofs.Common.{◌≡◌, ℕ, ◌<◌, false}
use Rattle.unit_interface.specs.Circles.{returns}
use Rattle.unit_interface.proofs.circles.first_circle.Given as goal

abbrev pub invariant-loop-place : goal.invariant-loop-place
invariant-loop-place l = (k : ℕ) → k < l.place → returns l.edges k ≡ false
