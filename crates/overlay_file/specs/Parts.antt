-- Reading a file part by part from its front: what is read, or the place of damage. That is the place of the first part
-- that breaks a rule, given the parts before it; where the bytes end before one does, it is their length.
use Rattle.std.specs.Prelude.{◌≡◌, ℕ, ◌+◌, Bool, nat_lt, if◌then◌else◌, List, length, slice_index, Result, Ok, Err}
use Rattle.mz_file.specs.Words.{word_at}
use Rattle.overlay_file.specs.declared.error.OvrError.{OvrError}
use Rattle.overlay_file.specs.declared.error.OvrError.TheVariants as error

-- further parts, where those so far are sound
infixl 10 ◌>>=◌
abbrev pub ◌>>=◌ : {A B : Type 0} → Result A ℕ → (A → Result B ℕ) → Result B ℕ
(Ok x) >>= more = more x
(Err at) >>= more = Err at

-- a value that the rule of its part, which begins at this place, allows
abbrev pub allowed_at : ℕ → (ℕ → Bool) → ℕ → Result ℕ ℕ
allowed_at at rule x = if rule x then Ok x else Err at

-- so many bytes from a place on that no rule binds: the place behind them
unfoldable pub free_bytes : ℕ → List ℕ → ℕ → Result ℕ ℕ
free_bytes count bytes at = if nat_lt (length bytes) (at + count) then Err (length bytes) else Ok (at + count)

-- a byte and a word that no rule binds
unfoldable pub free_byte : List ℕ → ℕ → Result ℕ ℕ
free_byte bytes at = if nat_lt (length bytes) (at + 1) then Err (length bytes) else Ok (slice_index bytes at)

unfoldable pub free_word : List ℕ → ℕ → Result ℕ ℕ
free_word bytes at = if nat_lt (length bytes) (at + 2) then Err (length bytes) else Ok (word_at bytes at)

-- a byte and a word that a rule binds
abbrev pub byte_where : (ℕ → Bool) → List ℕ → ℕ → Result ℕ ℕ
byte_where rule bytes at = free_byte bytes at >>= allowed_at at rule

abbrev pub word_where : (ℕ → Bool) → List ℕ → ℕ → Result ℕ ℕ
word_where rule bytes at = free_word bytes at >>= allowed_at at rule

-- What a function returned is what reading gives, unless memory ran out.
abbrev pub Fails : {A : Type 0} → OvrError → Result A ℕ → Type 0
Fails (error.Damaged at) read = read ≡ Err at
Fails error.NoMemory read = Unit {0}

abbrev pub Gives : {A B : Type 0} → (A → B) → Result A OvrError → Result B ℕ → Type 0
Gives shown (Ok x) read = read ≡ Ok (shown x)
Gives shown (Err e) read = Fails e read
