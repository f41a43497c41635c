use Rattle.call_simulation.proofs.services.Clearing.{clear_flows}
use Rattle.call_simulation.proofs.services.Setting.{flag_flows}
use Rattle.call_simulation.proofs.services.laws.service_law.Goals as goal

pub returns-clause-clear : goal.returns-clause-clear
returns-clause-clear c = clear_flows

pub returns-clause-flag : goal.returns-clause-flag
returns-clause-flag c = flag_flows
