use Rattle.std.proofs.Common.{◌+◌, ◌*◌, ap, ◌∙◌}
use Rattle.flat_code.specs.Memory.{Cells, cells_of, put}
use Rattle.flat_run.proofs.Regions.{region-none, region-more}
use Rattle.flat_run.proofs.memory.Memory.fill.Goals as goal

pub bytes-init : goal.bytes-init
bytes-init c = region-none (cells_of c.args.self.now.cells.items) c.args.segment c.args.low c.args.cell

pub bytes-preserved : goal.bytes-preserved
bytes-preserved c =
    c.set.ensures
    ∙ ap (λ (m : Cells). put m (16 * c.args.segment + c.args.low + c.bytes.i) c.args.cell) c.bytes.invariant
    ∙ region-more (cells_of c.args.self.now.cells.items) c.args.segment c.args.low c.bytes.i c.args.cell
