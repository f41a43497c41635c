-- Why bytes are no executable file. The first of the format's rules that fails is the cause.
use Rattle.std.specs.Prelude.{◌≡◌, ◌≢◌, ℕ, ◌<◌, List, length, get_or, All, ⊤}
use Rattle.cpu_8086.specs.declared.registers.Far.{Far}
use Rattle.mz_file.specs.declared.cause.ExeCause.{ExeCause}
use Rattle.mz_file.specs.declared.cause.ExeCause.TheVariants as cause
use Rattle.mz_file.specs.declared.cause.ExeError.{ExeError}
use Rattle.mz_file.specs.declared.cause.ExeError.TheVariants as error
use Rattle.mz_file.specs.Format.{image_of, relocations_of, IsWithin, IsLong, HasPages, HasBlock}
use Rattle.mz_file.specs.Words.{word_at}

-- The relocation with this number is the first that isn't within the image.
pub record IsFirstOutside (size : ℕ) (fars : List Far) (number : ℕ) : Type 0 where
  pub there : number < length fars
  pub outside : (none : Far) → ¬ IsWithin size (get_or fars number none)
  pub before : (k : ℕ) (none : Far) → k < number → IsWithin size (get_or fars k none)

-- The rules before a cause hold, and its own fails.
abbrev pub IsCause : List ℕ → ExeCause → Type 0
IsCause bytes cause.Short = ¬ IsLong bytes
IsCause bytes cause.NotMz = IsLong bytes × (word_at bytes 0x00 ≢ 0x5A4D)
IsCause bytes cause.BadPages = IsLong bytes × (word_at bytes 0x00 ≡ 0x5A4D) × (¬ HasPages bytes)
IsCause bytes (cause.BadRelocation number) =
    IsLong bytes × (word_at bytes 0x00 ≡ 0x5A4D) × HasPages bytes
    × IsFirstOutside (length (image_of bytes)) (relocations_of bytes) number
IsCause bytes cause.NoBlock =
    IsLong bytes × (word_at bytes 0x00 ≡ 0x5A4D) × HasPages bytes
    × All (IsWithin (length (image_of bytes))) (relocations_of bytes) × (¬ HasBlock bytes)

-- The error that a cause is.
abbrev pub error_of : ExeCause → ExeError
error_of cause.Short = error.Short
error_of cause.NotMz = error.NotMz
error_of cause.BadPages = error.BadPages
error_of (cause.BadRelocation number) = error.BadRelocation number
error_of cause.NoBlock = error.NoBlock

-- An error has its cause; out of memory is free.
abbrev pub IsRefusal : List ℕ → ExeError → Type 0
IsRefusal bytes error.Short = IsCause bytes cause.Short
IsRefusal bytes error.NotMz = IsCause bytes cause.NotMz
IsRefusal bytes error.BadPages = IsCause bytes cause.BadPages
IsRefusal bytes (error.BadRelocation number) = IsCause bytes (cause.BadRelocation number)
IsRefusal bytes error.NoBlock = IsCause bytes cause.NoBlock
IsRefusal bytes error.NoMemory = ⊤
