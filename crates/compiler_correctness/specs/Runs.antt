-- Runs of opened programs, as the theorems see them: what they show, and what they cost.
use Rattle.std.specs.Prelude.{ℕ, ◌+◌, ◌*◌, ◌≤◌, List}
use Rattle.common_values.specs.behaviour.Seen.{Standing, Ended, Going, Undefined, Stopped, Seen}
use Rattle.cpu_8086.specs.Process as process
use Rattle.cpu_8086.specs.Process.{Process, Status}
use Rattle.cpu_8086.specs.State.{State}
use Rattle.overlay_manager.specs.Manager.{Manager}
use Rattle.overlay_manager.specs.overlay_run.Managed.{Managed}
use Rattle.dos_runner.specs.Run.{process_of}

-- The bytes of the executable file, and of the overlay file, which is not looked at where nothing is overlaid.
pub record Files : Type 0 where
  pub exe : List ℕ
  pub ovr : List ℕ

abbrev pub standing_of : Status → Standing
standing_of process.Running = Going
standing_of (process.Ended code) = Ended code
standing_of (process.Stopped cs ip why) = Stopped

-- what a process has written, and how it stands
abbrev pub shown : Process → Seen
shown q = record { out = q.out; err = q.err; end = standing_of q.status }

-- an opened program with an input, before its first event
abbrev pub begun : State → Manager → List ℕ → Managed
begun machine manager input = record { process = process_of machine input; manager = manager; traps = 0 }

-- What was done within some turns is at most so much for each turn, for each byte that was read, and for the start. Of an undefined act nothing is said.
abbrev pub IsPaid : ℕ → ℕ → ℕ → Standing → ℕ → Type 0
IsPaid rate turns read (Ended code) done = done ≤ rate * (turns + read + 1)
IsPaid rate turns read Going done = done ≤ rate * (turns + read + 1)
IsPaid rate turns read (Undefined act) done = Unit {0}
IsPaid rate turns read Stopped done = done ≤ rate * (turns + read + 1)
