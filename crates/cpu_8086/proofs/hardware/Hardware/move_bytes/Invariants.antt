use Rattle.std.proofs.Common.{◌≡◌}
use Rattle.cpu_8086.specs.Direct.{moved_bytes}
use Rattle.cpu_8086.proofs.hardware.Hardware.move_bytes.Given as goal

abbrev pub invariant-loop-byte : goal.invariant-loop-byte
invariant-loop-byte l = l.self ≡ moved_bytes l.segment l._byte l.fn.self
