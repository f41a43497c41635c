use Rattle.flat_code.proofs.flat_builders.Lists.{view_if-next}
use Rattle.flat_code.proofs.flat_builders.when.Goals as goal

pub returns : goal.returns
returns c = view_if-next c.args.test c.args.yes c.args.no
