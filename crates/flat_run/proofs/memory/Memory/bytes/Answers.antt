use Rattle.std.proofs.Common.{◌+◌, ◌-◌, List, ℕ, sym, ap, ◌∙◌, arith}
use Rattle.flat_code.specs.Memory.{cells_of, bytes_at, after_prefix}
use Rattle.flat_run.proofs.Founds.{bytes-more, bytes-trap}
use Rattle.flat_run.proofs.memory.Memory.bytes.Goals as goal

pub returns-in-Err : goal.returns-in-Err
returns-in-Err c = c.bytes.invariant ∙ bytes-trap (cells_of c.args.self.now.cells.items) c.args.place c.bytes.i c.args.count c.bytes.bytes.items c.in-Err.trap (omega arith) (sym c.in-Err.ensures)

pub bytes-preserved : goal.bytes-preserved
bytes-preserved c =
    c.bytes.invariant
    ∙ bytes-more (cells_of c.args.self.now.cells.items) c.args.place c.bytes.i c.args.count c.bytes.bytes.items c.in-Ok.byte (omega arith) (sym c.in-Ok.ensures)
    ∙ ap (λ (front : List ℕ). after_prefix front (bytes_at (cells_of c.args.self.now.cells.items) c.args.place (c.bytes.i + 1) (c.args.count - (c.bytes.i + 1)))) (sym c.in_ok-push-in-Ok.ensures.items)
