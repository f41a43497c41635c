-- A program whose overlays move, beside a run of the resident machine.
use Rattle.std.specs.Prelude.{◌≡◌, ℕ, ◌*◌, ◌≤◌, Bool, List}
use Rattle.cpu_8086.specs.Process as process
use Rattle.cpu_8086.specs.Process.{Process, Status}
use Rattle.resident_machine.specs.Program.{Program}
use Rattle.resident_machine.specs.State.{ResidentStatus, Running, Ended, Stopped, ResidentState}
use Rattle.overlay_services.specs.Seated.{Follows}
use Rattle.tabled_runs.specs.Tables.{Tabled, On, NotLegal, TabledRuns}

-- so many events at least, unless a table was not legal
abbrev pub TakesAtLeast : ℕ → ℕ → Tabled → Type 0
TakesAtLeast count events (On q tables) = count ≤ events
TakesAtLeast count events NotLegal = Unit {0}

-- Within three events for each step that led to the state, and by no fewer than the steps, a program comes to where it follows the state.
pub record RunsBeside (p : Program) (kept : ℕ → Bool) (bytes : List ℕ) (count : ℕ) (t : ResidentState) (start : Tabled) : Type 0 where
  pub events : ℕ
  pub few : events ≤ 3 * count
  pub end : Tabled
  pub runs : TabledRuns bytes events start end
  pub many : TakesAtLeast count events end
  pub follows : Follows p kept bytes t end

-- ## What a state shows

-- running, ended with a code, or stopped
abbrev pub StandsAlike : ResidentStatus → Status → Type 0
StandsAlike Running status = status ≡ process.Running
StandsAlike (Ended code) status = status ≡ process.Ended code
StandsAlike (Stopped segment offset why) status = (number : ℕ) × (status ≡ process.Stopped number offset why)

-- What was read and written, and how it ended, are the same.
pub record ShowsSame (t : ResidentState) (q : Process) : Type 0 where
  pub input : q.input ≡ t.input
  pub taken : q.taken ≡ t.taken
  pub out : q.out ≡ t.out
  pub err : q.err ≡ t.err
  pub status : StandsAlike t.status q.status
