-- Runs of a program with overlays, as a runner makes them.
use Rattle.std.specs.Prelude.{◌≡◌, ◌+◌, ◌≤◌, ◌<◌, ℕ, List, [], Bool, None, Some}
use Rattle.cpu_8086.specs.State.{State}
use Rattle.dos_runner.specs.declared.runner.RunEnd.{RunEnd}
use Rattle.dos_runner.specs.declared.runner.RunEnd.TheVariants as ends
use Rattle.dos_runner.specs.Run.{process_of, IsInput, Progress, advanced}
use Rattle.dos_runner.specs.Outside.{Outside, Counts, Progresses, Limited}
use Rattle.overlay_manager.specs.Manager.{Manager}
use Rattle.overlay_manager.specs.overlay_run.Managed.{ManagedRuns}
use Rattle.dos_runner.specs.declared.overlay_runner.course.Course.{Course}
use Rattle.dos_runner.specs.overlay_runner.Event.{managed, IsManagedEvent, FindsTrap, ManagedAdvances}

-- So many events do this, from the start on, and leave this manager, with so many traps served, whatever the input is behind
-- the bytes that the source gave and while the overlay file holds these bytes.
abbrev pub IsManagedRun : List ℕ → ℕ → State → Manager → Manager → ℕ → Bool → Progress → Type 0
IsManagedRun bytes events start m m' traps over progress =
    (input : List ℕ) → IsInput progress.gained over input → ManagedRuns bytes events (managed m 0 (process_of start input)) (managed m' traps (advanced input 0 [] [] progress))

-- The run comes to this end, and whether the source is over is kept.
pub record ComesTo (bytes : List ℕ) (end : RunEnd) (events traps limit : ℕ) (old new : Course) (o o' : Outside) : Type 0 where
  pub bound : events ≤ limit
  pub limited : Limited end events limit
  pub run : Progresses (IsManagedRun bytes events old.machine old.ovr new.ovr traps new.over) (Some end) new.machine old.over new.over o o'

-- how many events the last one is that ended a run so: none where nothing came of it
abbrev pub events_in : RunEnd → ℕ
events_in ends.InputFault = 0
events_in ends.FilesFault = 0
events_in end = 1

-- The run goes on up to an event in which the source or a sink failed. Behind that nothing was read, written or run.
pub record FailsAtEvent (bytes : List ℕ) (end : RunEnd) (events traps limit : ℕ) (old new : Course) (o o' : Outside) : Type 0 where
  pub ran : ℕ
  pub below : ran < limit
  pub counted : events ≡ ran + events_in end
  pub last : Course
  pub served : ℕ
  pub mid : Outside
  pub run : Progresses (IsManagedRun bytes ran old.machine old.ovr last.ovr served last.over) None last.machine old.over last.over o mid
  pub counts : Counts o mid
  pub event : ManagedAdvances (IsManagedEvent bytes last.machine last.ovr served new.ovr traps new.over) (FindsTrap last.ovr last.machine) (Some end) last new served traps mid o'

-- The run comes to a trap for which a file failed: that is the run before the trap.
pub record FailsAtTrap (bytes : List ℕ) (events traps limit : ℕ) (old new : Course) (o o' : Outside) : Type 0 where
  pub below : events < limit
  pub last : Course
  pub run : Progresses (IsManagedRun bytes events old.machine old.ovr last.ovr traps last.over) None last.machine old.over last.over o o'
  pub trap : FindsTrap last.ovr last.machine
  pub tally : new.ovr.tally ≡ last.ovr.tally

-- What a call that runs a program did, in so many events with so many traps served.
abbrev pub Courses : List ℕ → RunEnd → ℕ → ℕ → ℕ → Course → Course → Outside → Outside → Type 0
Courses bytes ends.FilesFault events traps limit old new o o' = FailsAtTrap bytes events traps limit old new o o'
Courses bytes ends.InputFault events traps limit old new o o' = FailsAtEvent bytes ends.InputFault events traps limit old new o o'
Courses bytes ends.OutputFault events traps limit old new o o' = FailsAtEvent bytes ends.OutputFault events traps limit old new o o'
Courses bytes ends.ErrorsFault events traps limit old new o o' = FailsAtEvent bytes ends.ErrorsFault events traps limit old new o o'
Courses bytes end events traps limit old new o o' = ComesTo bytes end events traps limit old new o o'
