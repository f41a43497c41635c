-- What is left to copy.
use Rattle.std.proofs.Common.{◌≡◌, ◌-◌}
use Rattle.flat_code.specs.Memory.{cells_of, copy}
use Rattle.flat_run.proofs.memory.Memory.copy.Given as goal

abbrev pub invariant-bytes : goal.invariant-bytes
invariant-bytes l = copy (cells_of l.fn.self.cells.items) l.to l.from 0 l.bytes ≡ copy (cells_of l.self.cells.items) l.to l.from l.i (l.bytes - l.i)
