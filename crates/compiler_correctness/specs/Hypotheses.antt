-- What the theorems take of the parts of the compiler, each of one program and of the files that are linked from it.
use Rattle.std.specs.Prelude.{◌≡◌, ℕ, ◌+◌, ◌*◌, ◌<◌, ◌≤◌, Bool, true, false, List, [], length, Option, Some}
use Rattle.common_values.specs.behaviour.Seen.{Seen, Shows}
use Rattle.typed_tree.specs.declared.units.Program.{Program}
use Rattle.tp_meaning.specs.Meaning.{mean}
use Rattle.flat_code.specs.Legal.{Mention, Reaches, IsLegal}
use Rattle.flat_code.specs.Meaning.{FlatSeen, flat_run}
use Rattle.flat_code.specs.Program.{FlatProgram, Choice}
use Rattle.runtime_units.specs.Units.{ReachesRuntimeData}
use Rattle.cpu_8086.specs.State.{State}
use Rattle.mz_file.specs.Format.{IsExecutable, exe_of}
use Rattle.mz_file.specs.Load.{started}
use Rattle.overlay_file.specs.declared.overlay.OvrEntry.{OvrEntry}
use Rattle.overlay_ring.specs.Table.{Table}
use Rattle.overlay_manager.specs.Manager.{Manager}
use Rattle.resident_machine.specs.Program as resident
use Rattle.resident_machine.specs.Run.{RunsFramed}
use Rattle.resident_machine.specs.Standing.{StandsFor}
use Rattle.resident_machine.specs.State.{ResidentState}
use Rattle.statement_simulation.specs.flow.Sites.{World, AreBytes}
use Rattle.code_simulation.specs.bodies.Layouts.{IsIn, Layout, PlacedProgram}
use Rattle.code_simulation.specs.start.Shown as resident_seen
use Rattle.code_simulation.specs.start.Starting.{first_keys, HasStart, IsStart}
use Rattle.dos_runner.specs.opened_program.Matching.{BelongTogether}
use Rattle.dos_runner.specs.opened_program.Opening.{IsOpened, HasOverlays}
use Rattle.dos_runner.specs.plain_opening.Laws.{IsPlain}
use Rattle.compiler_correctness.specs.OverlayFiles.{HoldProgram}
use Rattle.compiler_correctness.specs.Runs.{Files, shown, begun, IsPaid}
use Rattle.tabled_runs.specs.Tables.{Tabled, On, NotLegal, TabledRuns}

-- ---- lowering

-- Each run of the source is shown by a run of the target, whose work the turns and the bytes that were read pay.
abbrev pub FollowsWithin : ℕ → (ℕ → Seen) → (ℕ → FlatSeen) → Type 0
FollowsWithin few source target =
    (turns : ℕ) → (m : ℕ) × Shows turns m (source turns) (target m).seen × IsPaid few turns (target m).read (source turns).end (target m).work

-- segments are words
pub record HasSegments (choice : Choice) : Type 0 where
  pub data_small : choice.data_segment < 65536
  pub stack_small : choice.stack_segment < 65536
  pub heap_small : choice.heap_segment < 65536

-- A flat program follows what a program means, on every input of bytes, whatever it reaches and wherever its parts lie.
abbrev pub IsLoweringOf : ℕ → Program → FlatProgram → Type 0
IsLoweringOf few program flat =
    (reached : Mention → Bool) (choice : Choice) → Reaches flat (IsIn reached) → ReachesRuntimeData (IsIn reached) → IsLegal flat choice (IsIn reached) → HasSegments choice →
    (input : List ℕ) → AreBytes input → FollowsWithin few (mean program input) (flat_run flat choice input)

-- ---- linking

abbrev pub world_of : FlatProgram → resident.Program → Bool → Choice → ℕ → ℕ → World
world_of flat machine framed choice rate last = record { machine = machine; framed = framed; program = flat; choice = choice; rate = rate; last = last }

-- A flat program stands in a program of the resident machine, with all data of the runtime: what is linked is placed, and has a start.
pub record Placement (flat : FlatProgram) (machine : resident.Program) (framed : Bool) : Type 0 where
  pub choice : Choice
  pub rate : ℕ
  pub last : ℕ
  pub reached : Mention → Bool
  pub layout : Layout
  pub placed : PlacedProgram (world_of flat machine framed choice rate last) (IsIn reached) layout
  pub begins : HasStart (world_of flat machine framed choice rate last) (IsIn reached) layout
  pub runtime : ReachesRuntimeData (IsIn reached)
  pub heap_small : choice.heap_segment < 65536

-- the resident machine comes to the first line so, with each input of bytes
abbrev pub Starts : (flat : FlatProgram) (machine : resident.Program) (framed : Bool) → Placement flat machine framed → (List ℕ → ResidentState) → Type 0
Starts flat machine framed p start =
    (input : List ℕ) → AreBytes input → IsStart (world_of flat machine framed p.choice p.rate p.last) (IsIn p.reached) p.layout p.begins input (start input)

-- how many events the resident machine has at most for each turn and each byte, where the flat program has so much work for each
abbrev pub resident_rate : (flat : FlatProgram) (machine : resident.Program) (framed : Bool) → Placement flat machine framed → ℕ → ℕ
resident_rate flat machine framed p few = p.rate * (few + length (first_keys flat flat.order)) + (4 + p.last)

-- ---- files

-- Without overlays the process that an executable starts stands for the resident start.
pub record LoadsAs (machine : resident.Program) (start : List ℕ → ResidentState) (exe : List ℕ) : Type 0 where
  pub whole : machine.overlays ≡ []
  pub process : (input : List ℕ) → AreBytes input → StandsFor machine (start input) (started exe input)

-- The overlay file has the overlays of the executable file's stubs.
pub record IsPair (files : Files) : Type 0 where
  pub executable : IsExecutable files.exe
  pub overlays : List OvrEntry
  pub known : HasOverlays (exe_of files.exe).block.stubs (Some files.ovr) overlays
  pub together : BelongTogether (exe_of files.exe).image (exe_of files.exe).block.stubs overlays

-- ---- overlays

-- After so many events a program shows what a state of the resident machine shows after fewer or as many, and has read as much; or it came to a table that is not legal.
abbrev pub Matches : ℕ → ℕ → ResidentState → Tabled → Type 0
Matches count events r (On p tables) = (count ≤ events) × (shown p.process ≡ resident_seen.shown r) × (p.process.taken ≡ r.taken)
Matches count events r NotLegal = Unit {0}

pub record ComesTo (files : Files) (count : ℕ) (r : ResidentState) (p : Tabled) : Type 0 where
  pub events : ℕ
  pub few : events ≤ 3 * count
  pub end : Tabled
  pub runs : TabledRuns files.ovr events p end
  pub matches : Matches count events r end

-- Wherever overlays are put, a framed run of the resident machine is one of the opened files, with at most three events for each: with each
-- buffer for which the files are opened, each input of bytes and each list of tables.
abbrev pub OverlaysFollow : resident.Program → (List ℕ → ResidentState) → Files → Type 0
OverlaysFollow machine start files =
    (name : List ℕ) (buffer : Option ℕ) (state : State) (manager : Manager) → IsOpened files.exe name (Some files.ovr) buffer state manager →
    (input : List ℕ) → AreBytes input → (count : ℕ) (r : ResidentState) → RunsFramed machine count (start input) r →
    (tables : List Table) → ComesTo files count r (On (begun state manager input) tables)

-- ---- all of these

-- of a program without overlaid units, and its executable file
pub record IsBuiltPlain (program : Program) (exe : List ℕ) : Type 0 where
  pub few : ℕ
  pub flat : FlatProgram
  pub machine : resident.Program
  pub start : List ℕ → ResidentState
  pub lowering : IsLoweringOf few program flat
  pub placement : Placement flat machine false
  pub starts : Starts flat machine false placement start
  pub loads : LoadsAs machine start exe
  pub plain : IsPlain exe

-- of a program with overlaid units, and its two files
pub record IsBuilt (program : Program) (files : Files) : Type 0 where
  pub few : ℕ
  pub flat : FlatProgram
  pub machine : resident.Program
  pub start : List ℕ → ResidentState
  pub lowering : IsLoweringOf few program flat
  pub placement : Placement flat machine true
  pub starts : Starts flat machine true placement start
  pub holds : HoldProgram machine start files
  pub pair : IsPair files

abbrev pub plain_rate : (program : Program) (exe : List ℕ) → IsBuiltPlain program exe → ℕ
plain_rate program exe b = resident_rate b.flat b.machine false b.placement b.few

-- a call through a stub takes three events in place of one
abbrev pub overlaid_rate : (program : Program) (files : Files) → IsBuilt program files → ℕ
overlaid_rate program files b = 3 * resident_rate b.flat b.machine true b.placement b.few
