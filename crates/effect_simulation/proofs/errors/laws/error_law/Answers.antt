use Rattle.effect_simulation.proofs.errors.Whole.{ends}
use Rattle.effect_simulation.proofs.errors.laws.error_law.Goals as goal

pub returns : goal.returns
returns c = ends
