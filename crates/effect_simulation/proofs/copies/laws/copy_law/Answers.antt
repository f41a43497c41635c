use Rattle.effect_simulation.proofs.copies.Copies.{copy_flows}
use Rattle.effect_simulation.proofs.copies.laws.copy_law.Goals as goal

pub returns : goal.returns
returns c = λ w site live bound pointer fits ends. copy_flows w site live fits bound pointer ends
