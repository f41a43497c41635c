use Rattle.statement_simulation.proofs.flow.Lists.{list_flows}
use Rattle.statement_simulation.proofs.flow.laws.flow_law.Goals as goal

pub returns : goal.returns
returns c = λ w site live bound fits ends. list_flows w site live fits ends bound
