use Rattle.std.proofs.Common.{subst}
use Rattle.type_layout.specs.Layouts.{IsMeasured}
use Rattle.type_layout.specs.Table.{Table}
use Rattle.type_layout.proofs.Measured.{is_measured}
use Rattle.type_layout.proofs.table.Types.count.Goals as goal

pub returns-clause-measured : goal.returns-clause-measured
returns-clause-measured c =
    subst (λ (t : Table). IsMeasured t.types) c.self.view_is (is_measured c.self.inside.types.items c.self.invariant.well_formed.defined)
