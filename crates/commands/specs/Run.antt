-- What `run` does before its last line.
use Rattle.std.specs.Prelude.{◌≡◌, ◌⊎◌, ℕ, List, Option, Some, None, unwrap_or, IfSome}
use Rattle.tp_outside.specs.Faults.{HasRisen}
use Rattle.tp_outside.specs.Folder.{Folder, bytes_of}
use Rattle.dos_runner.specs.declared.runner.RunEnd.{RunEnd}
use Rattle.dos_runner.specs.Outside.{Outside}
use Rattle.dos_runner.specs.declared.opened_program.error.OpenError.{OpenError}
use Rattle.dos_runner.specs.declared.opened_program.error.OpenError.TheVariants as errors
use Rattle.dos_runner.specs.opened_program.Opening.{IsRefused}
use Rattle.dos_runner.specs.declared.overlay_runner.runner.Runner.{Runner}
use Rattle.dos_runner.specs.overlay_runner.Event.{Rises}
use Rattle.dos_runner.specs.overlay_runner.Runner.{Begins, with_retry, RunsOn}
use Rattle.commands.specs.declared.names.FileKind.TheVariants.{Executable, Overlays}
use Rattle.front_end.specs.declared.outcomes.outcome.Outcome.{Outcome}
use Rattle.front_end.specs.declared.outcomes.outcome.Outcome.TheVariants as outcome
use Rattle.front_end.specs.declared.outcomes.refusal.Refusal.{Refusal}
use Rattle.front_end.specs.declared.outcomes.refusal.Refusal.TheVariants as refusal
use Rattle.command_line.specs.declared.command.RunOptions.{RunOptions}
use Rattle.commands.specs.Files.{file_of}
use Rattle.commands.specs.Ending.{outcome_of}
use Rattle.commands.specs.World.{World, IsUntouched}

-- the outcome of a program that was not opened
abbrev pub refused_as : OpenError → Outcome
refused_as (errors.NotExecutable cause) = outcome.Refused (refusal.NotExecutable cause)
refused_as (errors.MissingFile name) = outcome.Refused (refusal.MissingFile name)
refused_as (errors.OverlayFileDamaged at) = outcome.Refused (refusal.OverlayFileDamaged at)
refused_as (errors.OverlayMismatch overlay) = outcome.Refused (refusal.OverlayMismatch overlay)
refused_as (errors.BufferTooSmall need have) = outcome.Refused (refusal.BufferTooSmall need have)
refused_as (errors.MemoryTooSmall need) = outcome.Refused (refusal.MemoryTooSmall need)
refused_as errors.FilesFault = outcome.FilesFault
refused_as errors.NoMemory = outcome.NoMemory

-- Why an executable file gave no bytes.
abbrev pub IsAbsent : Outcome → List ℕ → Option Folder → ℕ → ℕ → Type 0
IsAbsent (outcome.Refused (refusal.MissingFile name)) file folder old new = (name ≡ file) × IfSome folder (λ held. held file ≡ None)
IsAbsent outcome.FilesFault file folder old new = HasRisen old new
IsAbsent outcome.NoMemory file folder old new = Unit {0}
IsAbsent other file folder old new = ⊥

-- The executable file of this name is not there.
pub record LacksExecutable (held : Folder) (r : Refusal) (name : List ℕ) : Type 0 where
  pub is : r ≡ refusal.MissingFile (file_of name Executable)
  pub absent : held (file_of name Executable) ≡ None

-- It is there, and the program is not opened, for this reason.
pub record OpensNot (held : Folder) (r : Refusal) (name : List ℕ) (buffer : Option ℕ) : Type 0 where
  pub bytes : List ℕ
  pub there : held (file_of name Executable) ≡ Some bytes
  pub error : OpenError
  pub is : outcome.Refused r ≡ refused_as error
  pub cause : IsRefused bytes (file_of name Overlays) (held (file_of name Overlays)) buffer error

-- A folder is told, the program's executable is there, and it is not opened for this reason: the rules before it hold.
abbrev pub IsUnopened : Option Folder → List ℕ → Option ℕ → OpenError → Type 0
IsUnopened None name buffer error = ⊥
IsUnopened (Some held) name buffer error =
    (bytes : List ℕ) × (held (file_of name Executable) ≡ Some bytes) × IsRefused bytes (file_of name Overlays) (held (file_of name Overlays)) buffer error

-- Why a program of this name did not begin, where the folder holds this. Faults and out of memory have no cause there.
abbrev pub HasNoStart : Folder → Outcome → List ℕ → Option ℕ → Type 0
HasNoStart held (outcome.Refused r) name buffer = LacksExecutable held r name ⊎ OpensNot held r name buffer
HasNoStart held outcome.FilesFault name buffer = Unit {0}
HasNoStart held outcome.NoMemory name buffer = Unit {0}
HasNoStart held other name buffer = ⊥

-- The refusals that `run` meets.
abbrev pub IsOfRun : Refusal → Type 0
IsOfRun (refusal.MissingFile name) = Unit {0}
IsOfRun (refusal.NotExecutable cause) = Unit {0}
IsOfRun (refusal.OverlayFileDamaged at) = Unit {0}
IsOfRun (refusal.OverlayMismatch overlay) = Unit {0}
IsOfRun (refusal.BufferTooSmall need have) = Unit {0}
IsOfRun (refusal.MemoryTooSmall need) = Unit {0}
IsOfRun other = ⊥

-- The same, also where the folder isn't told.
abbrev pub IsNotRun : Outcome → List ℕ → Option ℕ → Option Folder → ℕ → ℕ → Type 0
IsNotRun (outcome.Refused r) name buffer folder old new = IsOfRun r × IfSome folder (λ held. HasNoStart held (outcome.Refused r) name buffer)
IsNotRun outcome.FilesFault name buffer folder old new = HasRisen old new
IsNotRun outcome.NoMemory name buffer folder old new = Unit {0}
IsNotRun other name buffer folder old new = ⊥

-- A runner begins with the files of this name.
pub record BeginsNamed (held : Folder) (name : List ℕ) (buffer : Option ℕ) (runner : Runner) : Type 0 where
  pub bytes : List ℕ
  pub there : held (file_of name Executable) ≡ Some bytes
  pub begins : Begins bytes (file_of name Overlays) (held (file_of name Overlays)) buffer runner

-- how many instructions a program may take
abbrev pub limit_of : RunOptions → ℕ
limit_of options = unwrap_or options.limit 1000000000

-- how many paragraphs of overlays that live returns need are kept and moved
abbrev pub retry_of : RunOptions → ℕ
retry_of options = unwrap_or options.retry 0

-- The run of the program that these files hold, with these options, ends so, and does this to the streams.
pub record RunsFrom (held : Folder) (end : RunEnd) (name : List ℕ) (options : RunOptions) (o o' : Outside) : Type 0 where
  pub first : Runner
  pub last : Runner
  pub begins : BeginsNamed held name options.buffer first
  pub runs : RunsOn (bytes_of held (file_of name Overlays)) end (limit_of options) (with_retry first (retry_of options)) last o o'

-- The program of this name did not begin.
pub record GaveUp (result : Outcome) (name : List ℕ) (buffer : Option ℕ) (old new : World) : Type 0 where
  pub reason : IsNotRun result name buffer old.folder old.files_faults new.files_faults
  pub untouched : IsUntouched old new

-- It ran to this end.
pub record RanTo (end : RunEnd) (name : List ℕ) (options : RunOptions) (old new : World) : Type 0 where
  pub run : IfSome old.folder (λ held. RunsFrom held end name options old.streams new.streams)
  pub rises : Rises (Some end) old.streams new.streams old.files_faults new.files_faults
  pub folder : new.folder ≡ old.folder

abbrev pub RunDid : Outcome → List ℕ → RunOptions → World → World → Type 0
RunDid result name options old new =
    GaveUp result name options.buffer old new ⊎ ((end : RunEnd) × (result ≡ outcome_of end) × RanTo end name options old new)
