-- States and outcomes with more work.
use Rattle.std.specs.Prelude.{ℕ, ◌+◌}
use Rattle.flat_code.specs.Meaning.{State, Outcome, Next, Left, Returned, Over}

abbrev pub worked : ℕ → State → State
worked more s = record s { work = s.work + more }

abbrev pub all_worked : ℕ → Outcome → Outcome
all_worked more (Next s) = Next (worked more s)
all_worked more (Left loops s) = Left loops (worked more s)
all_worked more (Returned s) = Returned (worked more s)
all_worked more (Over standing s) = Over standing (worked more s)
