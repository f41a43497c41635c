use Rattle.dos_runner.proofs.opened_program.ReasonLaws.{one_reason, no_reason}
use Rattle.dos_runner.proofs.opened_program.laws.one_reason.Goals as goal

pub returns-clause-one : goal.returns-clause-one
returns-clause-one c = one_reason

pub returns-clause-none : goal.returns-clause-none
returns-clause-none c = no_reason
