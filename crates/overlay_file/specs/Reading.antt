-- Reading an overlay file from its front: its index, or the place of damage.
use Rattle.std.specs.Prelude.{ℕ, zero, suc, ◌+◌, ◌-◌, ◌*◌, Bool, nat_lt, nat_le, not, ◌&&◌, ◌==◌, if◌then◌else◌, List, [], ◌∷◌, length, slice_range, Result, Ok, Err}
use Rattle.type_layout.specs.Words.{is_name_byte, is_digit}
use Rattle.overlay_file.specs.declared.overlay.OvrEntry.{OvrEntry}
use Rattle.overlay_file.specs.Index.{fixups_place, entry_end}
use Rattle.overlay_file.specs.Parts.{◌>>=◌, byte_where, word_where, free_bytes, free_word}

-- the rules of the parts that have one alone
abbrev pub is_name_length : ℕ → Bool
is_name_length size = nat_lt 0 size && nat_le size 63

abbrev pub is_code_size : ℕ → Bool
is_code_size size = nat_lt 0 size && nat_le size 65520

abbrev pub is_overlay_count : ℕ → Bool
is_overlay_count count = nat_lt 0 count && nat_le count 256

-- byte `k` of a name: the first is no digit
abbrev pub stands_in_name : ℕ → ℕ → Bool
stands_in_name k byte = is_name_byte byte && not (k == 0 && is_digit byte)

-- `left` bytes of a name, from its byte `k` on: the place behind them
unfoldable pub name_from : ℕ → ℕ → List ℕ → ℕ → Result ℕ ℕ
name_from k zero bytes at = Ok at
name_from k (suc left) bytes at = do
  _ ← byte_where (stands_in_name k) bytes at
  name_from (k + 1) left bytes (at + 1)

-- a name: its length, and its bytes
unfoldable pub name_at : List ℕ → ℕ → Result (List ℕ) ℕ
name_at bytes at = do
  size ← byte_where is_name_length bytes at
  behind ← name_from 0 size bytes (at + 1)
  Ok (slice_range bytes (at + 1) behind)

-- a fixup: it comes at least 2 behind the one before, and its word lies inside the code
abbrev pub stands_as_fixup : ℕ → ℕ → ℕ → Bool
stands_as_fixup size least fixup = nat_le least fixup && nat_le (fixup + 2) size

-- `left` fixups, from `least` on: the place behind them
unfoldable pub fixups_from : ℕ → ℕ → ℕ → List ℕ → ℕ → Result ℕ ℕ
fixups_from size least zero bytes at = Ok at
fixups_from size least (suc left) bytes at = do
  fixup ← word_where (stands_as_fixup size least) bytes at
  fixups_from size (fixup + 2) left bytes (at + 2)

-- an overlay: its name, the size of its code, how many fixups it has, the code and the fixups
unfoldable pub entry_at : List ℕ → ℕ → Result OvrEntry ℕ
entry_at bytes at = do
  name ← name_at bytes at
  size ← word_where is_code_size bytes (at + 1 + length name)
  fixups ← free_word bytes (at + 3 + length name)
  behind ← free_bytes size bytes (at + 5 + length name)
  _ ← fixups_from size 0 fixups bytes behind
  Ok (record { name = name; place = at + 5 + length name; size = size; fixups = fixups })

-- `left` overlays, and the place behind them
unfoldable pub entries_from : ℕ → List ℕ → ℕ → Result (List OvrEntry × ℕ) ℕ
entries_from zero bytes at = Ok ([], at)
entries_from (suc left) bytes at = do
  entry ← entry_at bytes at
  others ← entries_from left bytes (entry_end entry)
  Ok (entry ∷ others.0, others.1)

-- the four letters: the place behind them
unfoldable pub letters_at : List ℕ → Result ℕ ℕ
letters_at bytes = do
  _ ← byte_where (λ byte. byte == 0x54) bytes 0
  _ ← byte_where (λ byte. byte == 0x4F) bytes 1
  _ ← byte_where (λ byte. byte == 0x56) bytes 2
  _ ← byte_where (λ byte. byte == 0x31) bytes 3
  Ok 4

-- the letters, the version, and the number of overlays
unfoldable pub count_at : List ℕ → Result ℕ ℕ
count_at bytes = do
  behind ← letters_at bytes
  _ ← word_where (λ version. version == 1) bytes behind
  word_where is_overlay_count bytes (behind + 2)

-- The whole file. Bytes behind the last overlay are damage.
unfoldable pub reading : List ℕ → Result (List OvrEntry) ℕ
reading bytes = do
  count ← count_at bytes
  entries ← entries_from count bytes 8
  if nat_lt entries.1 (length bytes) then Err entries.1 else Ok entries.0
