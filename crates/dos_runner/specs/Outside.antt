-- What a run, an event or a service does to the outside.
use Rattle.std.specs.Prelude.{◌≡◌, ◌<◌, ◌≤◌, ℕ, Bool, false, true, List, [], length, Option, None, Some}
use Rattle.std.specs.Io.KnownBytes.{append_known, prepend_known, IsAtEnd}
use Rattle.tp_outside.specs.Faults.{HasRisen}
use Rattle.tp_outside.specs.Streams.{TakesPrefix}
use Rattle.cpu_8086.specs.State.{State}
use Rattle.cpu_8086.specs.Process.{Status, Running, Ended, Stopped}
use Rattle.dos_runner.specs.declared.runner.RunEnd.{RunEnd}
use Rattle.dos_runner.specs.declared.runner.RunEnd.TheVariants as ends
use Rattle.dos_runner.specs.Run.{Progress, IsRun, IsEvent}

-- The bytes that the source has left and that the sinks have taken, where they are told, and the counts of faults.
pub record Outside : Type 0 where
  pub input : Option (List ℕ)
  pub output : Option (List ℕ)
  pub errors : Option (List ℕ)
  pub input_faults : ℕ
  pub output_faults : ℕ
  pub errors_faults : ℕ

-- No count of faults falls.
pub record Counts (old new : Outside) : Type 0 where
  pub input : old.input_faults ≤ new.input_faults
  pub output : old.output_faults ≤ new.output_faults
  pub errors : old.errors_faults ≤ new.errors_faults

-- A source gave these bytes. Whether it is over, which it says once, is known before and afterwards: it is asked no
-- more then, and has no byte left.
pub record Gave (gained : List ℕ) (over over' : Bool) (old new : Option (List ℕ)) : Type 0 where
  pub given : old ≡ prepend_known gained new
  pub stays_over : over ≡ true → (gained ≡ []) × (over' ≡ true)
  pub at_end : (over ≡ true → IsAtEnd old) → over' ≡ true → IsAtEnd new

-- How a part of a run ended it, or None where the process goes on: the machine and the status that are left. No part of a run
-- ends in a fault of the source or of files: what reads them says so itself.
abbrev pub Leaves : Option RunEnd → State → State → Status → Type 0
Leaves None new last status = (last ≡ new) × (status ≡ Running)
Leaves (Some (ends.Limit taken)) new last status = (last ≡ new) × (status ≡ Running)
Leaves (Some (ends.Ended code)) new last status = status ≡ Ended code
Leaves (Some (ends.Stopped cs ip why)) new last status = status ≡ Stopped cs ip why
Leaves (Some ends.InputFault) new last status = ⊥
Leaves (Some ends.OutputFault) new last status = status ≡ Running
Leaves (Some ends.ErrorsFault) new last status = status ≡ Running
Leaves (Some ends.FilesFault) new last status = ⊥

-- A sink failed as bytes were written, of which there are some: it took the first of them, or none.
pub record FailsWriting (old new : Option (List ℕ)) (bytes : List ℕ) : Type 0 where
  pub some : 0 < length bytes
  pub prefix : TakesPrefix old new bytes

-- What the output took of the bytes that were written: all, but for its fault.
abbrev pub Wrote : Option RunEnd → Option (List ℕ) → Option (List ℕ) → List ℕ → Type 0
Wrote (Some ends.OutputFault) old new out = FailsWriting old new out
Wrote end old new out = new ≡ append_known old out

-- The same of the errors.
abbrev pub Told : Option RunEnd → Option (List ℕ) → Option (List ℕ) → List ℕ → Type 0
Told (Some ends.ErrorsFault) old new err = FailsWriting old new err
Told end old new err = new ≡ append_known old err

-- A fault was counted by what it names.
abbrev pub Rose : Option RunEnd → Outside → Outside → Type 0
Rose (Some ends.InputFault) old new = HasRisen old.input_faults new.input_faults
Rose (Some ends.OutputFault) old new = HasRisen old.output_faults new.output_faults
Rose (Some ends.ErrorsFault) old new = HasRisen old.errors_faults new.errors_faults
Rose end old new = Unit {0}

-- A part of a run made progress that is such: it left the machine at new, and the outside as o'.
pub record Progresses (Is : Progress → Type 0) (end : Option RunEnd) (new : State) (over over' : Bool) (o o' : Outside) : Type 0 where
  pub progress : Progress
  pub does : Is progress
  pub leaves : Leaves end new progress.machine progress.status
  pub reads : Gave progress.gained over over' o.input o'.input
  pub wrote : Wrote end o.output o'.output progress.out
  pub told : Told end o.errors o'.errors progress.err
  pub rose : Rose end o o'

-- The source, which had not said that it is over, failed in an event that takes bytes from the input where there are any. The bytes that this
-- took before the fault are lost, fewer than it would take, and it did nothing else.
pub record FailsReading (Is : Progress → Type 0) (over : Bool) (o o' : Outside) : Type 0 where
  pub not_over : over ≡ false
  pub would : Progress
  pub is : Is would
  pub lost : List ℕ
  pub fewer : length lost < length would.gained
  pub gave : o.input ≡ prepend_known lost o'.input
  pub wrote : o'.output ≡ o.output
  pub told : o'.errors ≡ o.errors
  pub rose : HasRisen o.input_faults o'.input_faults

-- What an event or a service does. It knows no limit.
abbrev pub Advances : (Progress → Type 0) → Option RunEnd → State → Bool → Bool → Outside → Outside → Type 0
Advances Is (Some ends.InputFault) new over over' o o' = FailsReading Is over o o'
Advances Is (Some (ends.Limit taken)) new over over' o o' = ⊥
Advances Is end new over over' o o' = Progresses Is end new over over' o o'

-- A run comes to its limit with as many events as were allowed.
abbrev pub Limited : RunEnd → ℕ → ℕ → Type 0
Limited (ends.Limit taken) events limit = (taken ≡ limit) × (events ≡ limit)
Limited end events limit = Unit {0}

-- The run comes to this end: what at most so many events did, for each input that the source may have had.
pub record RunsThrough (result : RunEnd) (limit : ℕ) (old new : State) (o o' : Outside) : Type 0 where
  pub events : ℕ
  pub bound : events ≤ limit
  pub exhausted : Bool
  pub run : Progresses (IsRun events old exhausted) (Some result) new false exhausted o o'
  pub limited : Limited result events limit

-- The run goes on up to an event in which the source or a sink failed. Behind that nothing was read, written or run.
pub record FailsAfter (result : RunEnd) (limit : ℕ) (old new : State) (o o' : Outside) : Type 0 where
  pub events : ℕ
  pub below : events < limit
  pub exhausted : Bool
  pub last : State
  pub mid : Outside
  pub run : Progresses (IsRun events old exhausted) None last false exhausted o mid
  pub counts : Counts o mid
  pub over : Bool
  pub event : Advances (IsEvent last over) (Some result) new exhausted over mid o'

-- A call that runs a process on the machine from old on, for at most so many events, ended so.
abbrev pub RunsTo : RunEnd → ℕ → State → State → Outside → Outside → Type 0
RunsTo ends.InputFault limit old new o o' = FailsAfter ends.InputFault limit old new o o'
RunsTo ends.OutputFault limit old new o o' = FailsAfter ends.OutputFault limit old new o o'
RunsTo ends.ErrorsFault limit old new o o' = FailsAfter ends.ErrorsFault limit old new o o'
RunsTo result limit old new o o' = RunsThrough result limit old new o o'
