-- The bytes so far, and what is left.
use Rattle.std.proofs.Common.{◌≡◌, ◌-◌}
use Rattle.flat_code.specs.Memory.{cells_of, bytes_at, after_prefix}
use Rattle.flat_run.proofs.memory.Memory.bytes.Given as goal

abbrev pub invariant-bytes : goal.invariant-bytes
invariant-bytes l = bytes_at (cells_of l.self.cells.items) l.place 0 l.count ≡ after_prefix l.bytes.items (bytes_at (cells_of l.self.cells.items) l.place l.i (l.count - l.i))
