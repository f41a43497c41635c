use Rattle.resident_machine.proofs.machine_lines.Steps.{leads_on, leads_run, leads_framed}
use Rattle.resident_machine.proofs.machine_lines.laws.run_law.Goals as goal

pub returns-clause-compose : goal.returns-clause-compose
returns-clause-compose c = leads_on

pub returns-clause-runs : goal.returns-clause-runs
returns-clause-runs c = leads_run

pub returns-clause-framed : goal.returns-clause-framed
returns-clause-framed c = leads_framed
