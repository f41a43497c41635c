use Rattle.std.proofs.Common.{arith}
use Rattle.type_layout.specs.Layouts.{plain}
use Rattle.type_layout.proofs.sizes.size_of.Goals as goal

pub returns-clause-limit : goal.returns-clause-limit
returns-clause-limit c = c.layouts.ensures.fits c.args.id.0 (plain 0) (omega (arith, c.layouts.ensures.count))
