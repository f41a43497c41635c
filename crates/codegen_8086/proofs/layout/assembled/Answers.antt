use Rattle.std.proofs.Common.{ap, ◌∙◌}
use Rattle.x86_table.specs.Lines.{places_from}
use Rattle.codegen_8086.proofs.Refs.{placed-length}
use Rattle.codegen_8086.proofs.layout.assembled.Goals as goal

pub refs_at-requires-clause-placed : goal.refs_at-requires-clause-placed
refs_at-requires-clause-placed c =
    let layout = c.args.layout.now in
    placed-length layout.marked c.as_slice-in-Ok.result.now layout.lines c.as_slice.result.now c.requires.laid
    (c.as_slice.ensures ∙ c.in-Ok.ensures.places ∙ ap (places_from 0) c.as_slice-lines.ensures) c.as_slice-in-Ok.ensures
