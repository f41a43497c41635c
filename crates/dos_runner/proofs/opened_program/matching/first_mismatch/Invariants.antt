use Rattle.std.proofs.Common.{ℕ, ◌<◌}
use Rattle.dos_runner.specs.opened_program.Matching.{IsMatch}
use Rattle.dos_runner.proofs.opened_program.matching.first_mismatch.Given as goal

abbrev pub invariant-loop-number : goal.invariant-loop-number
invariant-loop-number l = (v : ℕ) → v < l.number → IsMatch l.image l.stubs l.overlays v
