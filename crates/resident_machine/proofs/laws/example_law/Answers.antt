use Rattle.resident_machine.proofs.ExampleRun.{example_runs, example_refused}
use Rattle.resident_machine.proofs.laws.example_law.Goals as goal

pub returns-clause-runs : goal.returns-clause-runs
returns-clause-runs c = example_runs

pub returns-clause-refused : goal.returns-clause-refused
returns-clause-refused c = example_refused
