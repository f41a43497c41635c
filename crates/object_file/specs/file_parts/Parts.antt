-- Reading a file part by part from its front. A reader takes the bytes that are left, and gives a value and the bytes
-- behind it. Where a part breaks its rule, given the parts before it, the reader gives how many bytes are left from that
-- part on; where the bytes end before, none are left. So the place of damage is the file's length without what is left.
use Rattle.std.specs.Prelude.{◌≡◌, ℕ, zero, suc, ◌+◌, ℤ, Bool, true, nat_lt, nat_le, not, ◌&&◌, ◌==◌, if◌then◌else◌, List, [], ◌∷◌, length, take, drop, Option, Some, None, Result, Ok, Err}
use Rattle.std.specs.Int.{w16, w32, from_le_bytes, cast_signed}
use Rattle.type_layout.specs.Words.{is_name_byte, is_digit}
use Rattle.object_file.specs.declared.file_parts.error.PartError.{PartError}
use Rattle.object_file.specs.declared.file_parts.error.PartError.TheVariants as error

abbrev pub Reader : Type 0 → Type 0
Reader A = List ℕ → Result (A × List ℕ) ℕ

-- further parts, where those so far are sound
infixl 10 ◌>>=◌
abbrev pub ◌>>=◌ : {A B : Type 0} → Result A ℕ → (A → Result B ℕ) → Result B ℕ
(Ok x) >>= more = more x
(Err left) >>= more = Err left

-- A part and its rule: where the value breaks it, as many bytes are left as there were before the part.
abbrev pub allowed : {A : Type 0} → ℕ → Bool → A → Result A ℕ
allowed left holds x = if holds then Ok x else Err left

abbrev pub ruled : {A : Type 0} → (A → Bool) → Reader A → Reader A
ruled rule read bytes = read bytes >>= λ x. allowed (length bytes) (rule x.0) x

-- one part, and then another one
infixr 12 ◌▷◌
abbrev pub ◌▷◌ : {A B : Type 0} → Reader A → Reader B → Reader (A × B)
(read ▷ more) bytes = do
  first ← read bytes
  second ← more first.1
  Ok ((first.0, second.0), second.1)

-- one part, and then one that depends on it
abbrev pub followed : {A B : Type 0} → Reader A → (A → Reader B) → Reader (A × B)
followed read more bytes = do
  first ← read bytes
  second ← more first.0 first.1
  Ok ((first.0, second.0), second.1)

-- what parts make
abbrev pub made : {A B : Type 0} → (A → B) → Reader A → Reader B
made make read bytes = do
  parts ← read bytes
  Ok (make parts.0, parts.1)

-- a byte, a word and a number of four bytes
unfoldable pub byte_at : Reader ℕ
byte_at [] = Err 0
byte_at (byte ∷ rest) = Ok (byte, rest)

unfoldable pub word_at : Reader ℕ
word_at bytes = if nat_lt (length bytes) 2 then Err 0 else Ok (from_le_bytes w16 (take 2 bytes), drop 2 bytes)

unfoldable pub long_at : Reader ℕ
long_at bytes = if nat_lt (length bytes) 4 then Err 0 else Ok (from_le_bytes w32 (take 4 bytes), drop 4 bytes)

-- a byte below a bound that says what follows
abbrev pub tagged : {A : Type 0} → ℕ → (ℕ → Reader A) → Reader A
tagged bound body bytes = do
  tag ← ruled (λ tag. nat_lt tag bound) byte_at bytes
  body tag.0 tag.1

-- what any value passes
abbrev pub any : {A : Type 0} → A → Bool
any _ = true

-- a signed number
unfoldable pub signed_at : Reader ℤ
signed_at bytes = made (cast_signed w32) long_at bytes

-- a truth value
unfoldable pub truth_at : Reader Bool
truth_at bytes = made (λ byte. byte == 1) (ruled (λ byte. nat_le byte 1) byte_at) bytes

-- a number that may be absent
abbrev pub option_of : ℕ → Option ℕ
option_of zero = None
option_of (suc number) = Some number

unfoldable pub option_at : Reader (Option ℕ)
option_at bytes = made option_of long_at bytes

-- so many bytes that no rule binds
unfoldable pub some_bytes : ℕ → Reader (List ℕ)
some_bytes count bytes = if nat_lt (length bytes) count then Err 0 else Ok (take count bytes, drop count bytes)

-- bytes behind their count, which a rule binds
unfoldable pub bytes_where : (ℕ → Bool) → Reader (List ℕ)
bytes_where rule bytes = do
  count ← ruled rule long_at bytes
  some_bytes count.0 count.1

-- so many items, each read by what the items before it left behind
unfoldable pub in_turn : {S A : Type 0} → (S → Reader A) → (S → A → S) → ℕ → S → Reader (List A)
in_turn read next zero state bytes = Ok ([], bytes)
in_turn read next (suc count) state bytes = do
  first ← read state bytes
  others ← in_turn read next count (next state first.0) first.1
  Ok (first.0 ∷ others.0, others.1)

-- so many items, each by itself
abbrev pub each : {A : Type 0} → Reader A → ℕ → Reader (List A)
each read count = in_turn (λ (_ : Unit {0}). read) (λ state _. state) count tt

-- a list behind its count, which a rule binds
abbrev pub list_where : {S A : Type 0} → (ℕ → Bool) → (S → Reader A) → (S → A → S) → S → Reader (List A)
list_where rule read next state bytes = do
  count ← ruled rule long_at bytes
  in_turn read next count.0 state count.1

abbrev pub list_of : {A : Type 0} → Reader A → Reader (List A)
list_of read = list_where any (λ (_ : Unit {0}). read) (λ state _. state) tt

-- a name: its length, and its bytes, of which the first is no digit
abbrev pub is_name_length : ℕ → Bool
is_name_length size = nat_lt 0 size && nat_le size 63

abbrev pub stands_in_name : ℕ → ℕ → Bool
stands_in_name k byte = is_name_byte byte && not (k == 0 && is_digit byte)

unfoldable pub name_bytes : ℕ → Reader (List ℕ)
name_bytes count bytes = in_turn (λ k. ruled (stands_in_name k) byte_at) (λ k _. k + 1) count 0 bytes

unfoldable pub name_at : Reader (List ℕ)
name_at bytes = do
  size ← ruled is_name_length byte_at bytes
  name_bytes size.0 size.1

-- What a function returned, seen by a view, is what reading gives, unless memory ran out.
abbrev pub Fails : {A : Type 0} → PartError → Result A ℕ → Type 0
Fails (error.Damaged left) read = read ≡ Err left
Fails error.NoMemory read = Unit {0}

abbrev pub Gives : {A B : Type 0} → (A → B) → Result A PartError → Result B ℕ → Type 0
Gives shown (Ok x) read = read ≡ Ok (shown x)
Gives shown (Err e) read = Fails e read
