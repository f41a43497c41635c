use Rattle.std.proofs.Common.{◌≡◌, ℕ, ◌<◌, ◌+◌, ◌%◌, get_or, List}
use Rattle.cpu_8086.specs.Memory.{load_byte}
use Rattle.dos_runner.proofs.transfer.gather.Given as goal

pub record Gathered (m : List ℕ) (s o i place : ℕ) (into : List ℕ) : Type 0 where
  pub place_is : place ≡ (o + i) % 65536
  pub so_far : (k : ℕ) → k < i → get_or into k 0 ≡ load_byte m s ((o + k) % 65536)

abbrev pub invariant-loop-byte : goal.invariant-loop-byte
invariant-loop-byte l = Gathered l.machine.memory l.segment l.offset l.byte-index l.place l.into
