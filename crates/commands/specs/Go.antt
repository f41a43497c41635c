-- What `go` does before its last line.
use Rattle.std.specs.Prelude.{◌≡◌, ◌⊎◌, ◌<◌, ◌≤◌, ℕ, List, [], length, Option, Some, IfSome}
use Rattle.tp_outside.specs.Faults.{HasRisen}
use Rattle.tp_outside.specs.Folder.{Folder, with_known_file}
use Rattle.typed_tree.specs.declared.units.Program.{Program}
use Rattle.tp_meaning.specs.Meaning.{mean}
use Rattle.front_end.specs.Typed.{IsProgramIn}
use Rattle.front_end.specs.Untyped.{IsRefusing}
use Rattle.checked_front_end.specs.Formed.{AreFormed}
use Rattle.checked_front_end.specs.interfaces_consistent.determinism.Folder.{FoundNone}
use Rattle.literal_programs.specs.Literals.{IsLiteral}
use Rattle.literal_programs.specs.Agrees.{Agrees}
use Rattle.literal_programs.specs.Memory.{HasMemoryOf}
use Rattle.literal_programs.specs.literal_code.Ends.{EndsWithin}
use Rattle.literal_programs.specs.literal_code.Size.{image_size}
use Rattle.cpu_8086.specs.State.{State}
use Rattle.mz_file.specs.Format.{exe_of}
use Rattle.mz_file.specs.Load.{loaded}
use Rattle.mz_file.specs.Spelling.{spelling}
use Rattle.dos_runner.specs.declared.runner.RunEnd.{RunEnd}
use Rattle.dos_runner.specs.declared.runner.RunEnd.TheVariants as ends
use Rattle.dos_runner.specs.Outside.{Outside, RunsTo}
use Rattle.dos_runner.specs.plain_opening.Laws.{needed}
use Rattle.dos_runner.specs.overlay_runner.Event.{Rises}
use Rattle.command_line.specs.declared.command.RunOptions.{RunOptions}
use Rattle.front_end.specs.declared.outcomes.refusal.Refusal.{Refusal}
use Rattle.front_end.specs.declared.outcomes.refusal.Refusal.TheVariants as refusal
use Rattle.front_end.specs.declared.outcomes.outcome.Outcome.{Outcome}
use Rattle.front_end.specs.declared.outcomes.outcome.Outcome.TheVariants as outcome
use Rattle.commands.specs.declared.names.FileKind.TheVariants.{Executable}
use Rattle.commands.specs.Compiled.{CannotCompile, CannotOpen, BrokeOff, WentCompiled}
use Rattle.commands.specs.Files.{file_of}
use Rattle.commands.specs.Ending.{outcome_of}
use Rattle.commands.specs.Run.{limit_of}
use Rattle.commands.specs.World.{World, IsUntouched}

-- ---- programs of literals

-- A program is of the literal form, and these bytes do what it means, soon, without overlays, in the memory that it asks for. They are those
-- of an executable as it is written, with nothing behind it, and its image is just as large as what the program says asks for.
pub record DoesSoon (program : Program) (bytes : List ℕ) : Type 0 where
  pub literal : IsLiteral program
  pub plain : (exe_of bytes).block.stubs ≡ []
  pub spelled : bytes ≡ spelling (exe_of bytes)
  pub size : length (exe_of bytes).image ≡ image_size literal.statements
  pub memory : HasMemoryOf program (exe_of bytes)
  pub agrees : Agrees program bytes
  pub soon : (input : List ℕ) (turns : ℕ) → EndsWithin 16389 bytes input (mean program input turns)

-- The files hold a program of this name, of well-formed units, and these bytes do what each means that they hold, which is of the literal
-- form.
pub record IsBuiltFrom (held : Folder) (name bytes : List ℕ) : Type 0 where
  pub program : Program
  pub is : IsProgramIn held name program
  pub formed : AreFormed program
  pub does : (one : Program) → IsProgramIn held name one → DoesSoon one bytes

-- The executable of such a program would not begin: with the buffer that is asked for it takes more than the memory below segment A000h. How
-- much it takes is settled by the program: by the size of its image, its stack and its heap.
pub record CannotBegin (held : Folder) (name : List ℕ) (buffer : Option ℕ) (r : Refusal) : Type 0 where
  pub bytes : List ℕ
  pub built : IsBuiltFrom held name bytes
  pub large : 0xA000 < needed bytes buffer
  pub refused : r ≡ refusal.MemoryTooSmall (needed bytes buffer)

-- ---- refusals

-- Why the program of this name is refused that is to be built and run: the files hold none; or one of literals, which cannot begin; or any
-- other, which is not compiled or would not be opened.
abbrev pub IsNotBuilt : Folder → List ℕ → Option ℕ → Refusal → Type 0
IsNotBuilt held name buffer r =
    FoundNone held name (outcome.Refused r) ⊎ (CannotBegin held name buffer r ⊎ (CannotCompile held name r ⊎ CannotOpen held name buffer r))

-- Why it was not run. Faults and out of memory have no cause there.
abbrev pub HasNoRun : Folder → Outcome → List ℕ → Option ℕ → Type 0
HasNoRun held (outcome.Refused r) name buffer = IsNotBuilt held name buffer r
HasNoRun held outcome.FilesFault name buffer = Unit {0}
HasNoRun held outcome.NoMemory name buffer = Unit {0}
HasNoRun held other name buffer = ⊥

-- The same, also where the folder isn't told.
abbrev pub IsNotGone : Outcome → List ℕ → Option ℕ → Option Folder → ℕ → ℕ → Type 0
IsNotGone (outcome.Refused r) name buffer folder old new = IsRefusing (outcome.Refused r) × IfSome folder (λ held. IsNotBuilt held name buffer r)
IsNotGone outcome.FilesFault name buffer folder old new = HasRisen old new
IsNotGone outcome.NoMemory name buffer folder old new = Unit {0}
IsNotGone other name buffer folder old new = ⊥

-- Nothing was written, for this reason.
pub record GaveNoRun (result : Outcome) (name : List ℕ) (buffer : Option ℕ) (old new : World) : Type 0 where
  pub reason : IsNotGone result name buffer old.folder old.files_faults new.files_faults
  pub untouched : IsUntouched old new

-- ---- runs

-- The memory holds an executable that was built from what the files hold, and the buffer that is asked for, and its process came to
-- this end.
pub record RanBuilt (held : Folder) (end : RunEnd) (name bytes : List ℕ) (options : RunOptions) (o o' : Outside) : Type 0 where
  pub built : IsBuiltFrom held name bytes
  pub fits : needed bytes options.buffer ≤ 0xA000
  pub last : State
  pub run : RunsTo end (limit_of options) (loaded (exe_of bytes)) last o o'

-- The executable was written, and run with this end. The run reads no file.
pub record WentTo (end : RunEnd) (name : List ℕ) (options : RunOptions) (old new : World) : Type 0 where
  pub bytes : List ℕ
  pub run : IfSome old.folder (λ held. RanBuilt held end name bytes options old.streams new.streams)
  pub rises : Rises (Some end) old.streams new.streams old.files_faults new.files_faults
  pub reads : end ≡ ends.FilesFault → ⊥
  pub written : new.folder ≡ with_known_file old.folder (file_of name Executable) bytes

-- Nothing was written; or the executable of a program of literals was written and run; or of any other the files, or the first of two.
abbrev pub GoDid : Outcome → List ℕ → RunOptions → World → World → Type 0
GoDid result name options old new =
    GaveNoRun result name options.buffer old new ⊎ (((end : RunEnd) × (result ≡ outcome_of end) × WentTo end name options old new)
    ⊎ (BrokeOff result name old new ⊎ ((end : RunEnd) × (result ≡ outcome_of end) × WentCompiled end name options old new)))
