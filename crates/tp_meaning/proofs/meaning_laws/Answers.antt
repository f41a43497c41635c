use Rattle.tp_meaning.proofs.Bodies.{mean-IsRun}
use Rattle.tp_meaning.proofs.Steps.{run_laws}
use Rattle.tp_meaning.proofs.Stores.{store_laws, text_laws, heap_laws}
use Rattle.tp_meaning.proofs.Numbers.{whole_number_laws}
use Rattle.tp_meaning.proofs.Loops.{for_laws}
use Rattle.tp_meaning.proofs.Shown.{statement_examples, part_examples, call_examples}
use Rattle.tp_meaning.proofs.meaning_laws.Goals as goal

pub returns-clause-runs : goal.returns-clause-runs
returns-clause-runs c = mean-IsRun

pub returns-clause-steps : goal.returns-clause-steps
returns-clause-steps c = run_laws

pub returns-clause-store : goal.returns-clause-store
returns-clause-store c = store_laws

pub returns-clause-texts : goal.returns-clause-texts
returns-clause-texts c = text_laws

pub returns-clause-heap : goal.returns-clause-heap
returns-clause-heap c = heap_laws

pub returns-clause-numbers : goal.returns-clause-numbers
returns-clause-numbers c = whole_number_laws

pub returns-clause-statements : goal.returns-clause-statements
returns-clause-statements c = statement_examples

pub returns-clause-parts : goal.returns-clause-parts
returns-clause-parts c = part_examples

pub returns-clause-calls : goal.returns-clause-calls
returns-clause-calls c = call_examples

pub returns-clause-for_loops : goal.returns-clause-for_loops
returns-clause-for_loops c = for_laws
