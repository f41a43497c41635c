use Rattle.std.proofs.Common.{◌≡◌, ℕ, ◌+◌, ◌<◌}
use Rattle.cpu_8086.specs.Memory.{load_byte}
use Rattle.overlay_file.proofs.stubs.has_zeros.Given as goal

abbrev pub invariant-loop-k : goal.invariant-loop-k
invariant-loop-k l = (k : ℕ) → k < l.k → load_byte l.machine.memory l.segment (18 + k) ≡ 0
