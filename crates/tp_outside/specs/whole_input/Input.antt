-- What it is for an input to be read as a whole, and for it to be too long.
use Rattle.std.specs.Prelude.{◌≡◌, ℕ, ◌≤◌, List, length, Option}
use Rattle.std.specs.Io.KnownBytes.{prepend_known, IsAtEnd}
use Rattle.tp_outside.specs.declared.whole_input.error.InputError.{InputError}
use Rattle.tp_outside.specs.declared.whole_input.error.InputError.TheVariants as e

-- All that was to come was read, and it is no more than an input may have.
pub record IsWhole (old new : Option (List ℕ)) (bytes : List ℕ) : Type 0 where
  pub few : length bytes ≤ 1048576
  pub read : old ≡ prepend_known bytes new
  pub ended : IsAtEnd new

-- One byte more was read than an input may have.
pub record HasMore (old new : Option (List ℕ)) (number : ℕ) : Type 0 where
  pub number_is : number ≡ 1048577
  pub bytes : List ℕ
  pub long : length bytes ≡ number
  pub read : old ≡ prepend_known bytes new

-- where there are more bytes than an input may have, so many were read
abbrev pub IsTooLong : Option (List ℕ) → Option (List ℕ) → InputError → Type 0
IsTooLong old new (e.TooLarge number) = HasMore old new number
IsTooLong old new other = Unit {0}

-- the fact holds, unless the error is a fault of the source or out of memory
abbrev pub Unless : InputError → Type 0 → Type 0
Unless e.Failed P = Unit {0}
Unless e.NoMemory P = Unit {0}
Unless error P = P
