-- Opening a program: with what its run begins, or why it is not opened.
use Rattle.std.specs.Prelude.{◌≡◌, ℕ, ◌+◌, ◌<◌, ◌≤◌, ◌==◌, MatchBool, List, [], length, map, Option, None, Some, unwrap_or, Ok, Err}
use Rattle.cpu_8086.specs.State.{State}
use Rattle.mz_file.specs.declared.cause.ExeCause.TheVariants as causes
use Rattle.mz_file.specs.declared.cause.ExeError.{ExeError}
use Rattle.mz_file.specs.declared.cause.ExeError.TheVariants as exe_errors
use Rattle.mz_file.specs.declared.executable.Exe.{Exe}
use Rattle.mz_file.specs.Cause.{IsCause}
use Rattle.mz_file.specs.Format.{IsExecutable, exe_of}
use Rattle.mz_file.specs.Load.{loaded, loaded_segment, paragraphs_taken, FitsWithBuffer}
use Rattle.overlay_file.specs.declared.error.OvrError.{OvrError}
use Rattle.overlay_file.specs.declared.error.OvrError.TheVariants as ovr_errors
use Rattle.overlay_file.specs.declared.overlay.OvrEntry.{OvrEntry}
use Rattle.overlay_file.specs.Reading.{reading}
use Rattle.overlay_manager.specs.Manager.{Manager, paragraphs_of, loaded_far}
use Rattle.tp_outside.specs.declared.faults.ReadError.{ReadError}
use Rattle.tp_outside.specs.declared.faults.ReadError.TheVariants as read_errors
use Rattle.dos_runner.specs.declared.opened_program.error.OpenError.{OpenError}
use Rattle.dos_runner.specs.declared.opened_program.error.OpenError.TheVariants as errors
use Rattle.dos_runner.specs.opened_program.Matching.{largest, BelongTogether, IsFirstMismatch}

-- what the errors of the files' readers are here
abbrev pub exe_refusal : ExeError → OpenError
exe_refusal exe_errors.Short = errors.NotExecutable causes.Short
exe_refusal exe_errors.NotMz = errors.NotExecutable causes.NotMz
exe_refusal exe_errors.BadPages = errors.NotExecutable causes.BadPages
exe_refusal (exe_errors.BadRelocation number) = errors.NotExecutable (causes.BadRelocation number)
exe_refusal exe_errors.NoBlock = errors.NotExecutable causes.NoBlock
exe_refusal exe_errors.NoMemory = errors.NoMemory

abbrev pub ovr_refusal : OvrError → OpenError
ovr_refusal (ovr_errors.Damaged at) = errors.OverlayFileDamaged at
ovr_refusal ovr_errors.NoMemory = errors.NoMemory

abbrev pub read_refusal : ReadError → OpenError
read_refusal read_errors.Failed = errors.FilesFault
read_refusal read_errors.NoMemory = errors.NoMemory

-- The overlays of a program, by what the overlay file holds, where there is one. Without stubs it isn't looked at.
abbrev pub IsIndexOf : Option (List ℕ) → List OvrEntry → Type 0
IsIndexOf None overlays = ⊥
IsIndexOf (Some bytes) overlays = reading bytes ≡ Ok overlays

abbrev pub HasOverlays : List ℕ → Option (List ℕ) → List OvrEntry → Type 0
HasOverlays stubs held overlays = MatchBool (length stubs == 0) (overlays ≡ []) (IsIndexOf held overlays)

-- why they are not known
abbrev pub IsDamagedAt : Option (List ℕ) → ℕ → Type 0
IsDamagedAt None at = ⊥
IsDamagedAt (Some bytes) at = reading bytes ≡ Err at

abbrev pub HasNoOverlays : List ℕ → List ℕ → Option (List ℕ) → OpenError → Type 0
HasNoOverlays stubs name held (errors.MissingFile other) = (0 < length stubs) × (held ≡ None) × (other ≡ name)
HasNoOverlays stubs name held (errors.OverlayFileDamaged at) = (0 < length stubs) × IsDamagedAt held at
HasNoOverlays stubs name held errors.FilesFault = Unit {0}
HasNoOverlays stubs name held errors.NoMemory = Unit {0}
HasNoOverlays stubs name held error = ⊥

-- the buffer in paragraphs: as it is asked for, else as large as the largest overlay
abbrev pub room_of : Option ℕ → List OvrEntry → ℕ
room_of buffer overlays = unwrap_or buffer (largest overlays)

-- A program, the overlays of its file and a buffer of this size fit together.
pub record FitTogether (exe : Exe) (overlays : List OvrEntry) (room : ℕ) : Type 0 where
  pub together : BelongTogether exe.image exe.block.stubs overlays
  pub enough : largest overlays ≤ room
  pub memory : FitsWithBuffer exe room

-- the first of these that fails
abbrev pub IsMisfit : Exe → List OvrEntry → ℕ → OpenError → Type 0
IsMisfit exe overlays room (errors.OverlayMismatch v) = IsFirstMismatch exe.image exe.block.stubs overlays v
IsMisfit exe overlays room (errors.BufferTooSmall need have) =
    BelongTogether exe.image exe.block.stubs overlays × (need ≡ largest overlays) × (have ≡ room) × (have < need)
IsMisfit exe overlays room (errors.MemoryTooSmall need) =
    BelongTogether exe.image exe.block.stubs overlays × (largest overlays ≤ room) × (need ≡ paragraphs_taken exe + room) × (0xA000 < need)
IsMisfit exe overlays room error = ⊥

-- what the manager of a program's overlays knows as its run begins, when all are out
abbrev pub start_manager : Exe → List ℕ → List OvrEntry → ℕ → Manager
start_manager exe name overlays room = record {
  name = name;
  entries = overlays;
  stubs = map loaded_segment exe.block.stubs;
  error_routine = loaded_far exe.block.error_routine;
  installed = loaded_far exe.block.installed;
  marked = exe.block.marked;
  ring = record { sizes = map paragraphs_of overlays; room = room; seats = [] };
  retry = 0;
  tally = record { loads = 0; patched = 0 };
}

-- A program is opened: by the bytes of its executable file and what its overlay file holds, with a buffer that is asked for or
-- not. Its run begins with this machine and this manager.
pub record IsOpened (bytes name : List ℕ) (held : Option (List ℕ)) (buffer : Option ℕ) (machine : State) (manager : Manager) : Type 0 where
  pub executable : IsExecutable bytes
  pub overlays : List OvrEntry
  pub overlays_are : HasOverlays (exe_of bytes).block.stubs held overlays
  pub fit : FitTogether (exe_of bytes) overlays (room_of buffer overlays)
  pub machine_is : machine ≡ loaded (exe_of bytes)
  pub manager_is : manager ≡ start_manager (exe_of bytes) name overlays (room_of buffer overlays)

-- It is no executable, its overlays are not known, or these do not fit it: what comes before is as it must be.
pub record IsMisfitOf (bytes : List ℕ) (held : Option (List ℕ)) (buffer : Option ℕ) (error : OpenError) : Type 0 where
  pub executable : IsExecutable bytes
  pub overlays : List OvrEntry
  pub overlays_are : HasOverlays (exe_of bytes).block.stubs held overlays
  pub misfit : IsMisfit (exe_of bytes) overlays (room_of buffer overlays) error

-- Why it was not opened. Out of memory and faults of the files have no cause in the bytes.
abbrev pub IsRefused : List ℕ → List ℕ → Option (List ℕ) → Option ℕ → OpenError → Type 0
IsRefused bytes name held buffer (errors.NotExecutable cause) = IsCause bytes cause
IsRefused bytes name held buffer (errors.MissingFile other) =
    IsExecutable bytes × HasNoOverlays (exe_of bytes).block.stubs name held (errors.MissingFile other)
IsRefused bytes name held buffer (errors.OverlayFileDamaged at) =
    IsExecutable bytes × HasNoOverlays (exe_of bytes).block.stubs name held (errors.OverlayFileDamaged at)
IsRefused bytes name held buffer errors.FilesFault = Unit {0}
IsRefused bytes name held buffer errors.NoMemory = Unit {0}
IsRefused bytes name held buffer error = IsMisfitOf bytes held buffer error

-- Out of memory and faults of the files have no reason in the bytes. Each other answer has.
abbrev pub HasReason : OpenError → Type 0
HasReason errors.FilesFault = ⊥
HasReason errors.NoMemory = ⊥
HasReason error = Unit {0}
