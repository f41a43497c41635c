-- The parts of the compiler that are still to come, and the laws of these on which the theorems rest.
use Rattle.std.specs.Prelude.{◌≡◌, ◌⊎◌, ℕ, ◌*◌, ◌≤◌, Bool, true, false, IsTrue, List, [], ◌∷◌, Option, Some}
use Rattle.common_values.specs.behaviour.Seen.{Stopped, Begins, IsOver, IsUndefined}
use Rattle.typed_tree.specs.declared.units.Program.{Program}
use Rattle.tp_meaning.specs.Meaning.{mean}
use Rattle.tp_meaning.specs.Programs.{overlaid}
use Rattle.program_typing.specs.programs.WellTyped.{IsWellTyped}
use Rattle.flat_code.specs.Program.{FlatProgram}
use Rattle.cpu_8086.specs.State.{State}
use Rattle.overlay_manager.specs.Manager.{Manager}
use Rattle.overlay_manager.specs.overlay_run.Managed.{Managed, ManagedRuns}
use Rattle.resident_machine.specs.Program as resident
use Rattle.resident_machine.specs.State.{ResidentState}
use Rattle.statement_simulation.specs.flow.Sites.{AreBytes}
use Rattle.dos_runner.specs.opened_program.Opening.{IsOpened}
use Rattle.dos_runner.specs.plain_opening.Laws.{IsPlain}
use Rattle.compiler_correctness.specs.Runs.{Files, shown, begun}
use Rattle.compiler_correctness.specs.OverlayFiles.{HoldProgram}
use Rattle.compiler_correctness.specs.Hypotheses.{IsLoweringOf, Placement, Starts, resident_rate, LoadsAs, IsPair}
use Rattle.compiler_correctness.specs.Correct.{IsCorrectPlain, RunsTo, IsCorrect}

-- Which programs are lowered, and to what, with how much work for each turn and each byte, and how many events of the resident machine; which
-- files are linked from the units of a program; and the program of the resident machine that files hold, with its start on each input.
pub record Compiler : Type 0 where
  pub is_lowerable : Program → Bool
  pub lowered : Program → FlatProgram
  pub few : Program → ℕ
  pub rate : Program → ℕ
  pub linked : Program → Option Files
  pub machine : Files → resident.Program
  pub start : Files → List ℕ → ResidentState

abbrev pub are_some : List (List ℕ) → Bool
are_some [] = false
are_some (name ∷ names) = true

-- whether a program has overlaid units
abbrev pub has_overlays : Program → Bool
has_overlays program = are_some (overlaid program)

-- a well-typed program that can be lowered, and files that are linked from it
pub record IsCompiled (c : Compiler) (program : Program) (files : Files) : Type 0 where
  pub typed : IsWellTyped program
  pub lowerable : IsTrue (c.is_lowerable program)
  pub linked : c.linked program ≡ Some files

-- ---- the laws

-- the flat program follows what the program means
abbrev pub LoweringLaw : Compiler → Type 0
LoweringLaw c = (program : Program) → IsWellTyped program → IsTrue (c.is_lowerable program) → IsLoweringOf (c.few program) program (c.lowered program)

-- what is linked is placed, and has a start; where overlays are, each event is framed
abbrev pub PlacingLaw : Compiler → Type 0
PlacingLaw c = (program : Program) (files : Files) → IsCompiled c program files
    → (p : Placement (c.lowered program) (c.machine files) (has_overlays program)) × Starts (c.lowered program) (c.machine files) (has_overlays program) p (c.start files)
    × (resident_rate (c.lowered program) (c.machine files) (has_overlays program) p (c.few program) ≤ c.rate program)

-- without overlays, what the executable starts stands for that start
abbrev pub LoadingLaw : Compiler → Type 0
LoadingLaw c = (program : Program) (files : Files) → IsCompiled c program files → has_overlays program ≡ false
    → IsPlain files.exe × LoadsAs (c.machine files) (c.start files) files.exe

-- with overlays, the two files belong together
abbrev pub PairingLaw : Compiler → Type 0
PairingLaw c = (program : Program) (files : Files) → IsCompiled c program files → has_overlays program ≡ true → IsPair files

-- and hold the program of the resident machine
abbrev pub HoldingLaw : Compiler → Type 0
HoldingLaw c = (program : Program) (files : Files) → IsCompiled c program files → has_overlays program ≡ true → HoldProgram (c.machine files) (c.start files) files

-- What the ring chooses is a list of tables, also where so many paragraphs of overlays are kept for live returns: each run of opened files is
-- one by some tables, up to what is counted.
abbrev pub RingLaw : Type 0
RingLaw =
    (files : Files) (name : List ℕ) (buffer : Option ℕ) (state : State) (manager : Manager) → IsOpened files.exe name (Some files.ovr) buffer state manager →
    (retry : ℕ) (input : List ℕ) (m : ℕ) (end : Managed) → ManagedRuns files.ovr m (begun state (record manager { retry = retry }) input) end →
    (last : Managed) × RunsTo files input m last × (last.process ≡ end.process)

pub record CompilerLaws (c : Compiler) : Type 0 where
  pub lowering : LoweringLaw c
  pub placing : PlacingLaw c
  pub loading : LoadingLaw c
  pub pairing : PairingLaw c
  pub holding : HoldingLaw c

-- ---- the theorems

abbrev pub PlainTheorem : Compiler → Type 0
PlainTheorem c = (program : Program) (files : Files) → IsCompiled c program files → has_overlays program ≡ false → (rate : ℕ) × (rate ≤ c.rate program) × IsCorrectPlain rate program files.exe

abbrev pub OverlaidTheorem : Compiler → Type 0
OverlaidTheorem c = (program : Program) (files : Files) → IsCompiled c program files → has_overlays program ≡ true → (rate : ℕ) × (rate ≤ 3 * c.rate program) × IsCorrect rate program files

-- What a run shows after so many events is what is meant: all of it once the run is over, and else a beginning. It is never stopped before an
-- undefined act.
pub record IsMeant (program : Program) (input : List ℕ) (m : ℕ) (end : Managed) : Type 0 where
  pub over : IsOver (shown end.process).end → (mean program input m ≡ shown end.process) ⊎ IsUndefined (mean program input m).end
  pub wrote : (Begins end.process.out (mean program input m).out × Begins end.process.err (mean program input m).err) ⊎ IsUndefined (mean program input m).end
  pub never_stopped : (shown end.process).end ≡ Stopped → IsUndefined (mean program input m).end

-- So what `run` does is what the program means, with each buffer and however many paragraphs are kept for live returns.
abbrev pub RunTheorem : Compiler → Type 0
RunTheorem c =
    (program : Program) (files : Files) → IsCompiled c program files → has_overlays program ≡ true →
    (name : List ℕ) (buffer : Option ℕ) (state : State) (manager : Manager) → IsOpened files.exe name (Some files.ovr) buffer state manager →
    (retry : ℕ) (input : List ℕ) → AreBytes input → (m : ℕ) (end : Managed) → ManagedRuns files.ovr m (begun state (record manager { retry = retry }) input) end → IsMeant program input m end
