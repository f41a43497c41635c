use Rattle.std.proofs.Common.{◌∙◌, ap, length}
use Rattle.type_layout.specs.Table.{Table}
use Rattle.type_layout.proofs.Given.{length-layouts_of}
use Rattle.type_layout.proofs.table.Types.layouts.Goals as goal

pub returns-clause-count : goal.returns-clause-count
returns-clause-count c =
    rw (c.as_slice.ensures.value, c.self.invariant.measured) (length-layouts_of c.self.inside.types.items ∙ ap (λ (t : Table). length t.types) c.self.view_is)
