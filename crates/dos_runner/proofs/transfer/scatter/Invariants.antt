use Rattle.std.proofs.Common.{◌≡◌, ℕ, ◌+◌, ◌%◌, List, take}
use Rattle.cpu_8086.specs.State.{State}
use Rattle.cpu_8086.specs.Process.{with_bytes}
use Rattle.dos_runner.proofs.transfer.scatter.Given as goal

pub record Scattered (old new : State) (s o i place : ℕ) (bytes : List ℕ) : Type 0 where
  pub place_is : place ≡ (o + i) % 65536
  pub stand : new ≡ record old { memory = with_bytes old.memory s o (take i bytes) }

abbrev pub invariant-loop-byte : goal.invariant-loop-byte
invariant-loop-byte l = Scattered l.initial.machine l.machine l.segment l.offset l.byte-index l.place l.bytes
