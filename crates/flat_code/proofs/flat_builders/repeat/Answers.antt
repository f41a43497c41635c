use Rattle.flat_code.proofs.flat_builders.Lists.{view_loop-next}
use Rattle.flat_code.proofs.flat_builders.repeat.Goals as goal

pub returns : goal.returns
returns c = view_loop-next c.args.body
