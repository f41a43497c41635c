use Rattle.tp_parser.proofs.OneFault.{alike, none}
use Rattle.tp_parser.proofs.tree.one_fault.Goals as goal

pub returns-clause-alike : goal.returns-clause-alike
returns-clause-alike c = alike

pub returns-clause-none : goal.returns-clause-none
returns-clause-none c = none
