-- The bytes so far are set.
use Rattle.std.proofs.Common.{◌≡◌}
use Rattle.flat_code.specs.Memory.{cells_of, region}
use Rattle.flat_run.proofs.memory.Memory.fill.Given as goal

abbrev pub invariant-bytes : goal.invariant-bytes
invariant-bytes l = cells_of l.self.cells.items ≡ region (cells_of l.fn.self.cells.items) l.segment l.low l.i l.cell
