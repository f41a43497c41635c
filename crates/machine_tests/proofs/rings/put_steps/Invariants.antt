use Rattle.std.proofs.Common.{◌≡◌, length}
use Rattle.machine_tests.proofs.rings.put_steps.Given as goal

abbrev pub invariant-loop-step : goal.invariant-loop-step
invariant-loop-step l = length l.ring.sizes ≡ 3
