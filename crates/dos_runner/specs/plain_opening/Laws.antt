-- Opening an executable without stubs.
use Rattle.std.specs.Prelude.{◌≡◌, ℕ, ◌+◌, ◌<◌, ◌≤◌, List, [], Option, unwrap_or}
use Rattle.mz_file.specs.Format.{IsExecutable, exe_of}
use Rattle.mz_file.specs.Load.{loaded, paragraphs_taken}
use Rattle.dos_runner.specs.declared.opened_program.error.OpenError.{OpenError}
use Rattle.dos_runner.specs.declared.opened_program.error.OpenError.TheVariants as errors
use Rattle.dos_runner.specs.opened_program.Opening.{start_manager, IsOpened, IsRefused, HasReason}

-- the bytes are an executable file of a program that overlays nothing
pub record IsPlain (bytes : List ℕ) : Type 0 where
  pub executable : IsExecutable bytes
  pub stubs : (exe_of bytes).block.stubs ≡ []

-- how many paragraphs the program takes from segment 0 on, with the buffer that is asked for
abbrev pub needed : List ℕ → Option ℕ → ℕ
needed bytes buffer = paragraphs_taken (exe_of bytes) + unwrap_or buffer 0

-- Whatever its overlay file is, such a program is opened where the memory holds it and the buffer,
abbrev pub PlainOpening : Type 0
PlainOpening = (bytes name : List ℕ) (held : Option (List ℕ)) (buffer : Option ℕ) → IsPlain bytes → needed bytes buffer ≤ 0xA000
    → IsOpened bytes name held buffer (loaded (exe_of bytes)) (start_manager (exe_of bytes) name [] (unwrap_or buffer 0))

-- refused where it doesn't,
abbrev pub LargeRefusal : Type 0
LargeRefusal = (bytes name : List ℕ) (held : Option (List ℕ)) (buffer : Option ℕ) → IsPlain bytes → 0xA000 < needed bytes buffer
    → IsRefused bytes name held buffer (errors.MemoryTooSmall (needed bytes buffer))

-- and never refused for another reason.
abbrev pub PlainRefusal : Type 0
PlainRefusal = (bytes name : List ℕ) (held : Option (List ℕ)) (buffer : Option ℕ) (error : OpenError) → IsPlain bytes → IsRefused bytes name held buffer error → HasReason error
    → (error ≡ errors.MemoryTooSmall (needed bytes buffer)) × (0xA000 < needed bytes buffer)
