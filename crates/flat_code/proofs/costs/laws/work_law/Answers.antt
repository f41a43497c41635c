use Rattle.flat_code.proofs.costs.Work.{called_worked, run_worked}
use Rattle.flat_code.proofs.costs.laws.work_law.Goals as goal

pub returns-clause-code : goal.returns-clause-code
returns-clause-code c = run_worked

pub returns-clause-call : goal.returns-clause-call
returns-clause-call c = called_worked
