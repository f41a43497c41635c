use Rattle.tabled_runs.specs.Tables.{TabledGoes}
use Rattle.compiler_correctness.proofs.Events.{events_one}
use Rattle.compiler_correctness.proofs.Tabled.{goes_once, as_events}
use Rattle.compiler_correctness.proofs.laws.tabled_run_law.Goals as goal

pub returns : goal.returns
returns c = λ bytes n p q r x y.
    events_one (TabledGoes bytes) (goes_once c.step_law.ensures.one bytes) n p q r (as_events bytes n p q x) (as_events bytes n p r y)
