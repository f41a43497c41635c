use Rattle.effect_simulation.proofs.effects.Routines.{routine_flows}
use Rattle.effect_simulation.proofs.effects.laws.routine_law.Goals as goal

pub returns : goal.returns
returns c = λ w site live bound pointer fits. routine_flows w site live fits bound pointer
