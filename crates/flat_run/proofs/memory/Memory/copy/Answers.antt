use Rattle.std.proofs.Common.{◌∙◌, arith}
use Rattle.flat_code.specs.Memory.{cells_of}
use Rattle.flat_run.proofs.Copies.{copy-step}
use Rattle.flat_run.proofs.memory.Memory.copy.Goals as goal

pub bytes-preserved : goal.bytes-preserved
bytes-preserved c =
    c.bytes.invariant
    ∙ copy-step (cells_of c.bytes.self.cells.items) (cells_of c.move_cell.new.self.cells.items) c.args.to c.args.from c.bytes.i c.args.bytes c.address.result c.address-in-bytes.result (omega arith) c.address.ensures.value c.address-in-bytes.ensures.value c.in_ok-move_cell.ensures
