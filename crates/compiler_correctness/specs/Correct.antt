-- What holds of a program and the files that are linked from it: their runs show what the program means.
use Rattle.std.specs.Prelude.{◌≡◌, ◌⊎◌, ℕ, ◌≤◌, List, Option, Some}
use Rattle.common_values.specs.behaviour.Seen.{Ended, Going, Stopped, Seen, Shows, Begins, IsOver, IsUndefined}
use Rattle.typed_tree.specs.declared.units.Program.{Program}
use Rattle.tp_meaning.specs.Meaning.{mean}
use Rattle.cpu_8086.specs.State.{State}
use Rattle.mz_file.specs.Format.{exe_of}
use Rattle.mz_file.specs.Load.{loaded, FitsWithBuffer}
use Rattle.overlay_file.specs.declared.overlay.OvrEntry.{OvrEntry}
use Rattle.overlay_ring.specs.Table.{Table}
use Rattle.overlay_manager.specs.Manager.{Manager}
use Rattle.overlay_manager.specs.overlay_run.Managed.{Managed, ManagedRuns}
use Rattle.statement_simulation.specs.flow.Sites.{AreBytes}
use Rattle.dos_runner.specs.opened_program.Matching.{largest}
use Rattle.dos_runner.specs.opened_program.Opening.{room_of, start_manager, IsOpened}
use Rattle.dos_runner.specs.plain_opening.Laws.{needed}
use Rattle.compiler_correctness.specs.Runs.{Files, shown, begun, IsPaid}
use Rattle.tabled_runs.specs.Tables.{Tabled, On, NotLegal, TabledRuns}

-- on this input the program meets no act that the language leaves undefined
abbrev pub IsDefined : Program → List ℕ → Type 0
IsDefined program input = (turns : ℕ) → IsUndefined (mean program input turns).end → ⊥

-- ---- programs without overlaid units

-- After some events a program shows what was meant within so many turns.
pub record ShowsPlain (rate : ℕ) (bytes : List ℕ) (start : Managed) (turns : ℕ) (x : Seen) : Type 0 where
  pub events : ℕ
  pub end : Managed
  pub runs : ManagedRuns bytes events start end
  pub shows : Shows turns events x (shown end.process)
  pub paid : IsPaid rate turns end.process.taken x.end events

-- A run follows the meaning, and the other way round, whatever the overlay file holds.
pub record FollowsPlain (rate : ℕ) (program : Program) (input bytes : List ℕ) (start : Managed) : Type 0 where
  pub follows : (turns : ℕ) → ShowsPlain rate bytes start turns (mean program input turns)
  -- once the run is over it shows what is meant within as many turns; and it never wrote anything else
  pub over : (m : ℕ) (end : Managed) → ManagedRuns bytes m start end → IsOver (shown end.process).end
      → (mean program input m ≡ shown end.process) ⊎ IsUndefined (mean program input m).end
  pub out : (m : ℕ) (end : Managed) → ManagedRuns bytes m start end → Begins end.process.out (mean program input m).out ⊎ IsUndefined (mean program input m).end
  pub err : (m : ℕ) (end : Managed) → ManagedRuns bytes m start end → Begins end.process.err (mean program input m).err ⊎ IsUndefined (mean program input m).end
  -- it is never stopped before an undefined act
  pub never_stopped : (m : ℕ) (end : Managed) → ManagedRuns bytes m start end → (shown end.process).end ≡ Stopped → IsUndefined (mean program input m).end
  -- it goes on as long as the meaning does
  pub goes_on : (turns : ℕ) → (mean program input turns).end ≡ Going → (m : ℕ) (end : Managed) → m ≤ turns → ManagedRuns bytes m start end → (shown end.process).end ≡ Going
  -- runtime errors, as 202 for the stack and 203 for the heap, and other codes come just where they are meant
  pub ends : (code : ℕ) → IsDefined program input →
      ((m : ℕ) (end : Managed) → ManagedRuns bytes m start end → (shown end.process).end ≡ Ended code → (mean program input m).end ≡ Ended code)
      × ((turns : ℕ) → (mean program input turns).end ≡ Ended code → (m : ℕ) × (end : Managed) × ManagedRuns bytes m start end × ((shown end.process).end ≡ Ended code))

-- A run after so many events, of an executable that was opened with some buffer, whatever the overlay file holds.
pub record RunsPlainTo (exe input : List ℕ) (m : ℕ) (end : Managed) : Type 0 where
  pub name : List ℕ
  pub held : Option (List ℕ)
  pub buffer : Option ℕ
  pub state : State
  pub manager : Manager
  pub opened : IsOpened exe name held buffer state manager
  pub bytes : List ℕ
  pub runs : ManagedRuns bytes m (begun state manager input) end

-- With whatever buffer the executable is opened, each run of it on an input of bytes follows the meaning; and it is opened wherever it fits.
pub record IsCorrectPlain (rate : ℕ) (program : Program) (exe : List ℕ) : Type 0 where
  pub opens : (name : List ℕ) (held : Option (List ℕ)) (buffer : Option ℕ) → needed exe buffer ≤ 0xA000
      → (state : State) × (manager : Manager) × IsOpened exe name held buffer state manager
  pub follows : (name : List ℕ) (held : Option (List ℕ)) (buffer : Option ℕ) (state : State) (manager : Manager) → IsOpened exe name held buffer state manager
      → (input bytes : List ℕ) → AreBytes input → FollowsPlain rate program input bytes (begun state manager input)
  -- with all buffers it comes to the same output, errors and end
  pub one_end : (input : List ℕ) → AreBytes input → IsDefined program input → (m k : ℕ) (end other : Managed) → RunsPlainTo exe input m end → RunsPlainTo exe input k other
      → IsOver (shown end.process).end → IsOver (shown other.process).end → shown end.process ≡ shown other.process

-- ---- programs with overlaid units

-- The run came to a table that is not legal, or shows what was meant within so many turns.
abbrev pub IsShown : ℕ → ℕ → ℕ → Seen → Tabled → Type 0
IsShown rate turns events x (On p tables) = Shows turns events x (shown p.process) × IsPaid rate turns p.process.taken x.end events
IsShown rate turns events x NotLegal = Unit {0}

pub record ShowsWithin (rate most : ℕ) (bytes : List ℕ) (start : Tabled) (turns : ℕ) (x : Seen) : Type 0 where
  pub events : ℕ
  pub few : events ≤ most
  pub end : Tabled
  pub runs : TabledRuns bytes events start end
  pub shows : IsShown rate turns events x end

-- With whatever buffer the files are opened, for each input of bytes and number of turns there is a number of events within which the run shows
-- what is meant, with whatever list of tables: or one of these that it used is not legal.
abbrev pub Agrees : ℕ → Program → Files → Type 0
Agrees rate program files =
    (name : List ℕ) (buffer : Option ℕ) (state : State) (manager : Manager) → IsOpened files.exe name (Some files.ovr) buffer state manager →
    (input : List ℕ) → AreBytes input → (turns : ℕ) →
    (most : ℕ) × ((tables : List Table) → ShowsWithin rate most files.ovr (On (begun state manager input) tables) turns (mean program input turns))

-- a buffer of so many paragraphs that holds the largest overlay and fits below segment A000h
pub record IsFitting (files : Files) (overlays : List OvrEntry) (room : ℕ) : Type 0 where
  pub enough : largest overlays ≤ room
  pub memory : FitsWithBuffer (exe_of files.exe) room

-- A run by some tables, after so many events, of files that were opened with some buffer.
pub record RunsTo (files : Files) (input : List ℕ) (m : ℕ) (end : Managed) : Type 0 where
  pub name : List ℕ
  pub buffer : Option ℕ
  pub state : State
  pub manager : Manager
  pub opened : IsOpened files.exe name (Some files.ovr) buffer state manager
  pub tables : List Table
  pub left : List Table
  pub runs : TabledRuns files.ovr m (On (begun state manager input) tables) (On end left)

pub record IsCorrect (rate : ℕ) (program : Program) (files : Files) : Type 0 where
  pub overlays : List OvrEntry
  pub opens : (name : List ℕ) (buffer : Option ℕ) → IsFitting files overlays (room_of buffer overlays)
      → IsOpened files.exe name (Some files.ovr) buffer (loaded (exe_of files.exe)) (start_manager (exe_of files.exe) name overlays (room_of buffer overlays))
  pub agrees : Agrees rate program files
  -- a run that is over shows what is meant within as many turns
  pub over : (input : List ℕ) → AreBytes input → (m : ℕ) (end : Managed) → RunsTo files input m end → IsOver (shown end.process).end
      → (mean program input m ≡ shown end.process) ⊎ IsUndefined (mean program input m).end
  -- and it never wrote anything else
  pub wrote : (input : List ℕ) → AreBytes input → (m : ℕ) (end : Managed) → RunsTo files input m end
      → (Begins end.process.out (mean program input m).out × Begins end.process.err (mean program input m).err) ⊎ IsUndefined (mean program input m).end
  -- it is never stopped before an undefined act
  pub never_stopped : (input : List ℕ) → AreBytes input → (m : ℕ) (end : Managed) → RunsTo files input m end → (shown end.process).end ≡ Stopped
      → IsUndefined (mean program input m).end
  -- runtime errors, as 202 for the stack and 203 for the heap, and other codes come only where they are meant; that they come there is in `agrees`
  pub ends : (input : List ℕ) → AreBytes input → IsDefined program input → (m : ℕ) (end : Managed) → RunsTo files input m end
      → (code : ℕ) → (shown end.process).end ≡ Ended code → (mean program input m).end ≡ Ended code
  -- with all buffers, and wherever overlays are put, it comes to the same output, errors and end
  pub one_end : (input : List ℕ) → AreBytes input → IsDefined program input → (m k : ℕ) (end other : Managed) → RunsTo files input m end → RunsTo files input k other
      → IsOver (shown end.process).end → IsOver (shown other.process).end → shown end.process ≡ shown other.process
  -- it goes on as long as the meaning does
  pub goes_on : (input : List ℕ) → AreBytes input → (turns : ℕ) → (mean program input turns).end ≡ Going → (m : ℕ) (end : Managed) → m ≤ turns
      → RunsTo files input m end → (shown end.process).end ≡ Going
