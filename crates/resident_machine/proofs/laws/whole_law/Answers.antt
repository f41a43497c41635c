use Rattle.resident_machine.proofs.WholeRuns.{runs_whole, start_whole}
use Rattle.resident_machine.proofs.laws.whole_law.Goals as goal

pub returns-clause-stays : goal.returns-clause-stays
returns-clause-stays c = runs_whole

pub returns-clause-begins : goal.returns-clause-begins
returns-clause-begins c = start_whole
