-- Parts of a run: what they do to a process.
use Rattle.std.specs.Prelude.{◌≡◌, ℕ, ◌+◌, Bool, true, List, [], ◌++◌, length, drop}
use Rattle.cpu_8086.specs.declared.machine.Event.{Event}
use Rattle.cpu_8086.specs.State.{State}
use Rattle.cpu_8086.specs.Process.{Process, Status, Running, serviced, after_step}
use Rattle.cpu_8086.specs.Run.{Goes, Runs}

-- The process that runs on this machine, after it took and wrote so much.
abbrev pub running : State → List ℕ → ℕ → List ℕ → List ℕ → Process
running machine input taken out err = record { machine = machine; input = input; taken = taken; out = out; err = err; status = Running }

-- The process that begins with this machine and this input.
abbrev pub process_of : State → List ℕ → Process
process_of machine input = running machine input 0 [] []

-- The input begins with the bytes that a source gave, and has no more where the source said that it ended.
pub record IsInput (given : List ℕ) (over : Bool) (input : List ℕ) : Type 0 where
  pub rest : List ℕ
  pub parts : input ≡ given ++ rest
  pub ended : over ≡ true → rest ≡ []

-- What part of a run does: the machine and the status that it leaves, the bytes that it gained from the input, and
-- those that it wrote to the output and to the errors.
pub record Progress : Type 0 where
  pub machine : State
  pub gained : List ℕ
  pub out : List ℕ
  pub err : List ℕ
  pub status : Status

-- The process with this input after that part, before which it had taken and written so much.
abbrev pub advanced : List ℕ → ℕ → List ℕ → List ℕ → Progress → Process
advanced input taken out err progress = record {
  machine = progress.machine;
  input = input;
  taken = taken + length progress.gained;
  out = out ++ progress.out;
  err = err ++ progress.err;
  status = progress.status;
}

-- So many events do this, from the start on, whatever the input is behind the bytes that the source gave.
abbrev pub IsRun : ℕ → State → Bool → Progress → Type 0
IsRun events start over progress = (input : List ℕ) → IsInput progress.gained over input → Runs events (process_of start input) (advanced input 0 [] [] progress)

-- The event that comes at a machine does this.
abbrev pub IsEvent : State → Bool → Progress → Type 0
IsEvent old over progress = (input : List ℕ) (taken : ℕ) (out err : List ℕ) → IsInput progress.gained over (drop taken input) → Goes (running old input taken out err) (advanced input taken out err progress)

-- What a step asked for does this, which took a machine from old to t.
abbrev pub IsFinish : State → State → Event → Bool → Progress → Type 0
IsFinish old t event over progress = (input : List ℕ) (taken : ℕ) (out err : List ℕ) → IsInput progress.gained over (drop taken input) → after_step (running old input taken out err) t event ≡ advanced input taken out err progress

-- INT n does this, which took a machine from old to t.
abbrev pub IsService : State → State → ℕ → Bool → Progress → Type 0
IsService old t n over progress = (input : List ℕ) (taken : ℕ) (out err : List ℕ) → IsInput progress.gained over (drop taken input) → serviced (running old input taken out err) t n ≡ advanced input taken out err progress
