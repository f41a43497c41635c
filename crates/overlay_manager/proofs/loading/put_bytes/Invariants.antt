use Rattle.std.proofs.Common.{◌≡◌, drop}
use Rattle.cpu_8086.specs.Process.{with_bytes}
use Rattle.overlay_manager.proofs.loading.put_bytes.Given as goal

-- what is put and what is left are all
abbrev pub invariant-loop-byte : goal.invariant-loop-byte
invariant-loop-byte l =
    record l.machine { memory = with_bytes l.machine.memory l.segment l.at (drop l.byte-index l.bytes) }
    ≡ record l.initial.machine { memory = with_bytes l.initial.machine.memory l.segment l.offset l.bytes }
