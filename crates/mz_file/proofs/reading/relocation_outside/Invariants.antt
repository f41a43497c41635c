use Rattle.std.proofs.Common.{ℕ, ◌+◌, ◌*◌, ◌<◌}
use Rattle.mz_file.specs.Format.{IsWithin}
use Rattle.mz_file.specs.Words.{far_at}
use Rattle.mz_file.proofs.reading.relocation_outside.Given as goal

abbrev pub invariant-loop-number : goal.invariant-loop-number
invariant-loop-number l = (k : ℕ) → k < l.number → IsWithin l.size (far_at l.bytes (l.place + 4 * k))
