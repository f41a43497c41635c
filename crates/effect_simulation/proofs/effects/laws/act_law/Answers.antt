use Rattle.effect_simulation.proofs.effects.Ends.{end_flows}
use Rattle.effect_simulation.proofs.effects.Reading.{read_flows}
use Rattle.effect_simulation.proofs.effects.Writes.{write_flows}
use Rattle.effect_simulation.proofs.effects.laws.act_law.Goals as goal

pub returns-clause-write : goal.returns-clause-write
returns-clause-write c = λ w site live bound pointer fits ends. write_flows w site live fits bound pointer ends

pub returns-clause-read : goal.returns-clause-read
returns-clause-read c = λ w site live bound pointer fits ends. read_flows w site live fits bound pointer ends

pub returns-clause-end : goal.returns-clause-end
returns-clause-end c = λ w site live bound pointer fits ends. end_flows w site live fits bound pointer ends
