-- What is left to lay.
use Rattle.std.proofs.Common.{◌≡◌, drop}
use Rattle.flat_code.specs.Memory.{cells_of, laid}
use Rattle.flat_run.proofs.memory.Memory.lay.Given as goal

abbrev pub invariant-bytes : goal.invariant-bytes
invariant-bytes l = laid (cells_of l.fn.self.cells.items) l.place 0 l.bytes ≡ laid (cells_of l.self.cells.items) l.place l.i (drop l.i l.bytes)
