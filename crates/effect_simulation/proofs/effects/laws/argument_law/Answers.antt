use Rattle.effect_simulation.proofs.effects.Arguments.{args_run}
use Rattle.effect_simulation.proofs.effects.laws.argument_law.Goals as goal

pub returns : goal.returns
returns c = args_run
