-- Programs of any form but that of literals, which `go` compiles: their files, and what it does with them.
use Rattle.std.specs.Prelude.{◌≡◌, ◌⊎◌, ℕ, List, Option, None, Some, IfSome, IsSome}
use Rattle.std.specs.Option.{option_map}
use Rattle.tp_outside.specs.declared.faults.WriteError.{WriteError}
use Rattle.tp_outside.specs.declared.faults.WriteError.TheVariants as write
use Rattle.tp_outside.specs.Faults.{HasRisen}
use Rattle.tp_outside.specs.Folder.{Folder, with_file, with_known_file}
use Rattle.typed_tree.specs.declared.units.Program.{Program}
use Rattle.front_end.specs.Typed.{IsProgramIn}
use Rattle.checked_front_end.specs.Formed.{AreFormed}
use Rattle.literal_programs.specs.Literals.{IsLiteral}
use Rattle.back_end.specs.declared.error.BuildError.{BuildError}
use Rattle.back_end.specs.declared.error.BuildError.TheVariants as error
use Rattle.back_end.specs.declared.files.ProgramFiles.{ProgramFiles}
use Rattle.back_end.specs.Files.{AreFilesOf}
use Rattle.back_end.specs.Refused.{IsRefused}
use Rattle.dos_runner.specs.declared.runner.RunEnd.{RunEnd}
use Rattle.dos_runner.specs.Outside.{Outside}
use Rattle.dos_runner.specs.declared.opened_program.error.OpenError.{OpenError}
use Rattle.dos_runner.specs.declared.opened_program.error.OpenError.TheVariants as errors
use Rattle.dos_runner.specs.overlay_runner.Event.{Rises}
use Rattle.command_line.specs.declared.command.RunOptions.{RunOptions}
use Rattle.front_end.specs.declared.outcomes.refusal.Refusal.{Refusal}
use Rattle.front_end.specs.declared.outcomes.refusal.Refusal.TheVariants as refusal
use Rattle.front_end.specs.declared.outcomes.refusal.What.TheVariants as what
use Rattle.front_end.specs.declared.outcomes.outcome.Outcome.{Outcome}
use Rattle.front_end.specs.declared.outcomes.outcome.Outcome.TheVariants as outcome
use Rattle.commands.specs.declared.names.FileKind.TheVariants.{Executable, Overlays}
use Rattle.commands.specs.Files.{file_of}
use Rattle.commands.specs.Run.{IsOfRun, OpensNot, RunsFrom}
use Rattle.commands.specs.World.{World}

-- The files hold a program of this name, of well-formed units, and none that they hold is of the literal form.
pub record HoldsOther (held : Folder) (name : List ℕ) : Type 0 where
  pub program : Program
  pub is : IsProgramIn held name program
  pub formed : AreFormed program
  pub other : (one : Program) → IsProgramIn held name one → IsLiteral one → ⊥

-- These are the files that such a program was compiled to.
pub record IsCompiledFrom (held : Folder) (name : List ℕ) (files : ProgramFiles) : Type 0 where
  pub holds : HoldsOther held name
  pub made : AreFilesOf holds.program files

-- ---- the folder

abbrev pub with_overlays : Folder → List ℕ → Option (List ℕ) → Folder
with_overlays held name None = held
with_overlays held name (Some bytes) = with_file held (file_of name Overlays) bytes

-- The folder in which the executable and the overlay file of this name hold these bytes. Without overlays an overlay file that was there
-- stays as it was.
abbrev pub with_files : Folder → List ℕ → ProgramFiles → Folder
with_files held name files = with_overlays (with_file held (file_of name Executable) files.executable) name files.overlays

abbrev pub with_known_files : Option Folder → List ℕ → ProgramFiles → Option Folder
with_known_files known name files = option_map (λ held. with_files held name files) known

-- The executable alone was written, though there are overlays.
pub record HasFirst (old new : Option Folder) (name : List ℕ) (files : ProgramFiles) : Type 0 where
  pub overlaid : IsSome files.overlays
  pub written : new ≡ with_known_file old (file_of name Executable) files.executable

-- Not all was written that was due: nothing, or the first of two files.
abbrev pub IsFront : Option Folder → Option Folder → List ℕ → ProgramFiles → Type 0
IsFront old new name files = (new ≡ old) ⊎ HasFirst old new name files

-- ---- outcomes

-- the outcome of a program that is not compiled
abbrev pub not_compiled : BuildError → Outcome
not_compiled (error.CodeTooLarge bytes) = outcome.Refused (refusal.TooLarge what.Code bytes)
not_compiled (error.NotOverlayable unit) = outcome.Refused (refusal.NotOverlayable unit)
not_compiled (error.DataTooLarge bytes) = outcome.Refused (refusal.TooLarge what.Data bytes)
not_compiled (error.ImageTooLarge paragraphs) = outcome.Refused (refusal.TooLarge what.Image paragraphs)
not_compiled (error.TooManyRelocations count) = outcome.Refused (refusal.TooLarge what.Relocations count)
not_compiled error.NoMemory = outcome.NoMemory

-- and of one that is not written
abbrev pub not_written : WriteError → Outcome
not_written write.Failed = outcome.FilesFault
not_written write.NoMemory = outcome.NoMemory

-- An error of files of which no call fails: in place of a fault there is no memory.
abbrev pub without_fault : OpenError → OpenError
without_fault errors.FilesFault = errors.NoMemory
without_fault other = other

-- ---- refusals

-- Why a typed program has no files.
pub record IsNotCompiled (program : Program) (result : Outcome) : Type 0 where
  pub error : BuildError
  pub cause : IsRefused program error
  pub is : result ≡ not_compiled error

-- The files hold such a program, and it is not compiled, for this reason.
pub record CannotCompile (held : Folder) (name : List ℕ) (r : Refusal) : Type 0 where
  pub holds : HoldsOther held name
  pub why : IsNotCompiled holds.program (outcome.Refused r)

-- It was compiled, and would not be opened: with its files the folder would hold a program that `run` refuses for this reason.
pub record CannotOpen (held : Folder) (name : List ℕ) (buffer : Option ℕ) (r : Refusal) : Type 0 where
  pub files : ProgramFiles
  pub compiled : IsCompiledFrom held name files
  pub why : OpensNot (with_files held name files) r name buffer

-- Why files of a program were not opened before they were written.
abbrev pub IsNotOpened : Outcome → List ℕ → ProgramFiles → Option ℕ → Option Folder → ℕ → ℕ → Type 0
IsNotOpened (outcome.Refused r) name files buffer folder old new = IsOfRun r × IfSome folder (λ held. OpensNot (with_files held name files) r name buffer)
IsNotOpened outcome.FilesFault name files buffer folder old new = HasRisen old new
IsNotOpened outcome.NoMemory name files buffer folder old new = Unit {0}
IsNotOpened other name files buffer folder old new = ⊥

-- ---- runs

-- What the files hold was compiled to these files, and the run of the program that the folder holds with them comes to this end.
pub record RanCompiled (held : Folder) (end : RunEnd) (name : List ℕ) (files : ProgramFiles) (options : RunOptions) (o o' : Outside) : Type 0 where
  pub compiled : IsCompiledFrom held name files
  pub run : RunsFrom (with_files held name files) end name options o o'

-- Files failed as one was written, or there was no memory for it.
abbrev pub IsWriteFailure : Outcome → ℕ → ℕ → Type 0
IsWriteFailure outcome.FilesFault old new = HasRisen old new
IsWriteFailure outcome.NoMemory old new = Unit {0}
IsWriteFailure other old new = ⊥

-- The overlay file was not written: the executable alone was, and nothing was run.
pub record BrokeOff (result : Outcome) (name : List ℕ) (old new : World) : Type 0 where
  pub files : ProgramFiles
  pub compiled : IfSome old.folder (λ held. IsCompiledFrom held name files)
  pub reason : IsWriteFailure result old.files_faults new.files_faults
  pub first : HasFirst old.folder new.folder name files
  pub streams : new.streams ≡ old.streams

-- All files were written, and what they hold was run to this end.
pub record WentCompiled (end : RunEnd) (name : List ℕ) (options : RunOptions) (old new : World) : Type 0 where
  pub files : ProgramFiles
  pub run : IfSome old.folder (λ held. RanCompiled held end name files options old.streams new.streams)
  pub rises : Rises (Some end) old.streams new.streams old.files_faults new.files_faults
  pub written : new.folder ≡ with_known_files old.folder name files
