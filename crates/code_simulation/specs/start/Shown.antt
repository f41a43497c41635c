-- What a resident state shows, and what it is for the machine to show a run of a flat program.
use Rattle.std.specs.Prelude.{◌≡◌, ℕ, ◌+◌, ◌≤◌, List, length}
use Rattle.common_values.specs.behaviour.Seen.{Standing, Ended, Going, Stopped, Seen, Shows}
use Rattle.flat_code.specs.Meaning.{flat_run}
use Rattle.resident_machine.specs.State as resident
use Rattle.resident_machine.specs.State.{ResidentState, ResidentStatus}
use Rattle.resident_machine.specs.machine_lines.Steps.{Leads}
use Rattle.statement_simulation.specs.flow.Outcomes.{budget}
use Rattle.statement_simulation.specs.flow.Sites.{World}
use Rattle.code_simulation.specs.start.Starting.{first_keys}

abbrev pub standing_of : ResidentStatus → Standing
standing_of resident.Running = Going
standing_of (resident.Ended code) = Ended code
standing_of (resident.Stopped segment offset why) = Stopped

abbrev pub shown : ResidentState → Seen
shown r = record { out = r.out; err = r.err; end = standing_of r.status }

-- From a state some events, none astray, lead to one that shows what the flat program shows within so many turns, and has read as much. They are no more than the work is given, with the start of each unit as one node more.
pub record ShowsRun (w : World) (input : List ℕ) (turns : ℕ) (r : ResidentState) : Type 0 where
  pub count : ℕ
  pub end : ResidentState
  pub leads : Leads w.machine w.framed count r end
  pub shows : Shows turns count (flat_run w.program w.choice input turns).seen (shown end)
  pub few : count ≤ budget w ((flat_run w.program w.choice input turns).work + length (first_keys w.program w.program.order)) + (4 + w.last)
  pub read : end.taken ≡ (flat_run w.program w.choice input turns).read
