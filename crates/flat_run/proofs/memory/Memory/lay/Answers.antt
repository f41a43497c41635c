use Rattle.std.proofs.Common.{◌+◌, get_or, drop, sym, ap, ◌∙◌, arith}
use Rattle.flat_code.specs.declared.memory.Cell.TheVariants.{Known}
use Rattle.flat_code.specs.Memory.{Cells, cells_of, put, laid}
use Rattle.flat_run.proofs.Laid.{laid-more}
use Rattle.flat_run.proofs.memory.Memory.lay.Goals as goal

pub bytes-preserved : goal.bytes-preserved
bytes-preserved c =
    let m = cells_of c.bytes.self.cells.items in
    let p = c.args.place in
    let i = c.bytes.i in
    let bytes = c.args.bytes.now in
    let rest = drop (i + 1) bytes in
    c.bytes.invariant
    ∙ laid-more m p bytes i (omega arith)
    ∙ ap (λ a. laid (put m a (Known (get_or bytes i 0))) p (i + 1) rest) (sym c.address.ensures.value)
    ∙ ap (λ (n : Cells). laid n p (i + 1) rest) (sym c.set.ensures)
