-- One event of a program with overlays, as parts of a run are told: what it does to each process that stands there.
use Rattle.std.specs.Prelude.{◌≡◌, ℕ, List, drop, Bool, Option, None, Some, IsSome}
use Rattle.tp_outside.specs.Faults.{HasRisen}
use Rattle.cpu_8086.specs.declared.machine.Event.{Event}
use Rattle.cpu_8086.specs.declared.machine.Event.TheVariants as events
use Rattle.cpu_8086.specs.declared.registers.Far.{Far}
use Rattle.cpu_8086.specs.State.{State}
use Rattle.cpu_8086.specs.Process.{Process, Stopped}
use Rattle.cpu_8086.specs.Step.{Steps}
use Rattle.dos_runner.specs.declared.runner.RunEnd.{RunEnd}
use Rattle.dos_runner.specs.declared.runner.RunEnd.TheVariants as ends
use Rattle.dos_runner.specs.Run.{running, IsInput, Progress, advanced}
use Rattle.dos_runner.specs.Outside.{Outside, FailsReading, Rose, Advances}
use Rattle.overlay_manager.specs.Manager.{Manager}
use Rattle.overlay_manager.specs.Traps.{trap_of}
use Rattle.overlay_manager.specs.overlay_run.Managed.{Managed, IsAfter, ManagedGoes}
use Rattle.dos_runner.specs.declared.overlay_runner.course.Course.{Course}

-- a process with this manager of its overlays, for which so many traps were served
abbrev pub managed : Manager → ℕ → Process → Managed
managed manager traps p = record { process = p; manager = manager; traps = traps }

-- The event that comes at a machine does this, and makes of one manager and count of traps the others.
abbrev pub IsManagedEvent : List ℕ → State → Manager → ℕ → Manager → ℕ → Bool → Progress → Type 0
IsManagedEvent bytes old m traps m' traps' over progress =
    (input : List ℕ) (taken : ℕ) (out err : List ℕ) → IsInput progress.gained over (drop taken input)
    → ManagedGoes bytes (managed m traps (running old input taken out err)) (managed m' traps' (advanced input taken out err progress))

-- What a step asked for does this, which took a machine from old to t.
abbrev pub IsManagedFinish : List ℕ → State → State → Event → Manager → ℕ → Manager → ℕ → Bool → Progress → Type 0
IsManagedFinish bytes old t event m traps m' traps' over progress =
    (input : List ℕ) (taken : ℕ) (out err : List ℕ) → IsInput progress.gained over (drop taken input)
    → IsAfter bytes (managed m traps (running old input taken out err)) t event (managed m' traps' (advanced input taken out err progress))

-- What a trap or a clear does to each process whose instruction stands at this place, by its answer: it goes on with this
-- machine, or is stopped there. Nothing is said where a file failed.
abbrev pub GoesOrStops : (Process → Managed → Type 0) → Option RunEnd → Far → State → Manager → ℕ → Type 0
GoesOrStops Does None at new m' traps' = (p : Process) → Does p (managed m' traps' (record p { machine = new }))
GoesOrStops Does (Some (ends.Stopped cs ip why)) at new m' traps' =
    (p : Process) → p.machine.cs ≡ at.segment → p.machine.registers.ip ≡ at.offset → Does p (managed m' traps' (record p { status = Stopped cs ip why }))
GoesOrStops Does (Some ends.FilesFault) at new m' traps' = Unit {0}
GoesOrStops Does (Some end) at new m' traps' = ⊥

-- A trap stands in a stub.
abbrev pub IsTrap : Manager → State → Type 0
IsTrap m t = IsSome (trap_of m.stubs t)

-- The instruction that comes at a machine is such a trap.
pub record FindsTrap (m : Manager) (machine : State) : Type 0 where
  pub past : State
  pub steps : Steps machine past (events.Service 63)
  pub trap : IsTrap m past

-- A file failed as overlays were loaded for a trap. Nothing was read or written, and no overlay counts as loaded.
pub record FailsLoading (Found : Type 0) (m m' : Manager) (traps traps' : ℕ) (o o' : Outside) : Type 0 where
  pub found : Found
  pub tally : m'.tally ≡ m.tally
  pub served : traps' ≡ traps
  pub streams : o' ≡ o

-- The source failed. The manager is as it was.
pub record FailsManagedReading (Does : Progress → Type 0) (over : Bool) (m m' : Manager) (traps traps' : ℕ) (o o' : Outside) : Type 0 where
  pub fails : FailsReading Does over o o'
  pub manager : m' ≡ m
  pub served : traps' ≡ traps

-- What an event of a program does, by its answer. It knows no limit. Found says that a trap is there.
abbrev pub ManagedAdvances : (Progress → Type 0) → Type 0 → Option RunEnd → Course → Course → ℕ → ℕ → Outside → Outside → Type 0
ManagedAdvances Does Found (Some ends.FilesFault) old new traps traps' o o' = FailsLoading Found old.ovr new.ovr traps traps' o o'
ManagedAdvances Does Found (Some ends.InputFault) old new traps traps' o o' = FailsManagedReading Does old.over old.ovr new.ovr traps traps' o o'
ManagedAdvances Does Found end old new traps traps' o o' = Advances Does end new.machine old.over new.over o o'

-- A fault was counted by what it names.
abbrev pub Rises : Option RunEnd → Outside → Outside → ℕ → ℕ → Type 0
Rises (Some ends.FilesFault) o o' files files' = HasRisen files files'
Rises end o o' files files' = Rose end o o'

-- Answers of a trap or a clear: none of the streams is touched.
abbrev pub IsQuietEnd : Option RunEnd → Type 0
IsQuietEnd None = Unit {0}
IsQuietEnd (Some (ends.Stopped cs ip why)) = Unit {0}
IsQuietEnd (Some ends.FilesFault) = Unit {0}
IsQuietEnd (Some end) = ⊥
