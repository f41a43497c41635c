-- What the body of a routine that computes words from words has to come to.
use Rattle.std.specs.Prelude.{◌≡◌, ℕ, ◌+◌, ◌*◌, ◌/◌, ◌≤◌, true, false, List, Result, Ok, Err, Some, slice_get}
use Rattle.flat_code.specs.Tree.{Code}
use Rattle.flat_code.specs.Program.{Key, Routine, UnitCode, FlatProgram, Choice}
use Rattle.flat_code.specs.Meaning.{Frame, State}
use Rattle.flat_code.specs.Gives.{AreWords, Computes}
use Rattle.runtime_proofs.specs.routine_proofs.Activation.{Activation, IsPlaced}
use Rattle.runtime_proofs.specs.routine_proofs.Straight.{Exit, Onward, Leaving, Returning, Failing, Came, straight, code_size}
use Rattle.runtime_proofs.specs.routine_proofs.Comes.{Does}
use Rattle.runtime_proofs.specs.routine_proofs.Entry.{entered, result_seen}

-- a routine of the runtime as its unit holds it
pub record IsHeld (program : FlatProgram) (key : Key) (unit : UnitCode) (r : Routine) : Type 0 where
  pub unit_is : Some unit ≡ program.unit key.unit
  pub routine_is : Some r ≡ slice_get unit.routines key.number
  pub resident : program.overlaid key.unit ≡ false
  pub untested : r.frame ≡ 0
  pub far : r.far ≡ true
  pub locals : 2 * (r.locals / 2) ≡ r.locals

-- an exit by which a routine ends
abbrev pub EndsRoutine : Exit → Type 0
EndsRoutine Onward = Unit {0}
EndsRoutine (Leaving loops) = ⊥
EndsRoutine Returning = Unit {0}
EndsRoutine (Failing code) = ⊥

-- but for the words of the activation nothing is changed
pub record KeepsOuter (a b : Activation) : Type 0 where
  pub memory : b.memory ≡ a.memory
  pub flag : b.flag ≡ a.flag
  pub input : b.input ≡ a.input
  pub out : b.out ≡ a.out
  pub err : b.err ≡ a.err

-- it ends with these bytes of the result
pub record Answers (program : FlatProgram) (choice : Choice) (own : Frame) (sp : ℕ) (r : Routine) (turns work : ℕ) (a : Activation) (bytes : List ℕ) : Type 0 where
  pub exit : Exit
  pub ends : EndsRoutine exit
  pub there : Activation
  pub does : Does program choice own sp r.body turns work a exit there
  pub given : result_seen (r.arguments + 6) there r.result ≡ Ok bytes
  pub keeps : KeepsOuter a there

-- it raises this error
pub record Fails (program : FlatProgram) (choice : Choice) (own : Frame) (sp : ℕ) (r : Routine) (turns work : ℕ) (a : Activation) (code : ℕ) : Type 0 where
  pub there : Activation
  pub does : Does program choice own sp r.body turns work a (Failing code) there
  pub keeps : KeepsOuter a there

abbrev pub Replies : FlatProgram → Choice → Frame → ℕ → Routine → ℕ → ℕ → Activation → Result (List ℕ) ℕ → Type 0
Replies program choice own sp r turns work a (Ok bytes) = Answers program choice own sp r turns work a bytes
Replies program choice own sp r turns work a (Err code) = Fails program choice own sp r turns work a code

-- ---- the laws

-- straight code does what it is seen to do
abbrev pub StraightLaw : FlatProgram → Choice → Frame → ℕ → ℕ → Type 0
StraightLaw program choice own sp above = (code : Code) (a : Activation) (came : Came) → straight choice own above code a ≡ Ok came → Does program choice own sp code 0 (code_size code) a came.exit came.there

-- where the body comes to what is promised from each words, the routine computes it
abbrev pub ComputesLaw : FlatProgram → Choice → Key → UnitCode → Routine → Type 0
ComputesLaw program choice key unit r =
    (stack words turns work : ℕ) (g : List ℕ → Result (List ℕ) ℕ) → r.arguments ≡ 2 * words → r.arguments + 6 + r.locals ≤ stack →
    ((args : List ℕ) (own : Frame) (sp : ℕ) (s : State) → AreWords words args → IsPlaced choice own sp (r.arguments + 6) → Replies program choice own sp r turns work (entered choice sp r.locals args s) (g args)) →
    Computes program choice key stack words g turns work
