-- The memory of the resident machine: of each byte it is known what it holds, or that it is not to be touched.
use Rattle.std.specs.Prelude.{ℕ, zero, suc, ◌+◌, ◌-◌, ◌%◌, ◌==◌, ◌||◌, Bool, true, false, if◌then◌else◌, List, [], ◌∷◌, Result, Ok, Err, Option, Some, None}
use Rattle.cpu_8086.specs.Memory.{address, next_offset, word_of}
use Rattle.resident_machine.specs.Astray.{Astray, TouchesReturn, TouchesKept, ReadsUnknown, and_then}

-- A byte holds a number, or what isn't known. Kept bytes are those of stubs, of code and of the buffer, the first 400h
-- and those behind the extra memory; paired ones are those of far return pairs.
pub data Cell : Type 0 where
  Known : (value : ℕ) → Cell
  Unknown : Cell
  Kept : Cell
  Paired : Cell

-- by linear address
abbrev pub Cells : Type 0
Cells = ℕ → Cell

abbrev pub with_cell : Cells → ℕ → Cell → Cells
with_cell cells place cell other = if other == place then cell else cells other

-- both bytes of a word
abbrev pub with_word : Cells → ℕ → ℕ → Cell → Cells
with_word cells segment offset cell =
    with_cell (with_cell cells (address segment offset) cell) (address segment (next_offset offset)) cell

abbrev pub is_free : Cell → Bool
is_free (Known v) = true
is_free Unknown = true
is_free Kept = false
is_free Paired = false

-- ## A byte is read, written, moved

abbrev pub known_then : {A : Type 0} → Cell → (ℕ → Result A Astray) → Result A Astray
known_then (Known v) next = next v
known_then Unknown next = Err ReadsUnknown
known_then Kept next = Err TouchesKept
known_then Paired next = Err TouchesReturn

abbrev pub free_then : {A : Type 0} → Cell → Result A Astray → Result A Astray
free_then (Known v) next = next
free_then Unknown next = next
free_then Kept next = Err TouchesKept
free_then Paired next = Err TouchesReturn

-- what isn't known is moved as such
abbrev pub moved_then : {A : Type 0} → Cell → (Cell → Result A Astray) → Result A Astray
moved_then (Known v) next = next (Known v)
moved_then Unknown next = next Unknown
moved_then Kept next = Err TouchesKept
moved_then Paired next = Err TouchesReturn

-- a word becomes one of a return pair
abbrev pub paired_then : {A : Type 0} → Cells → ℕ → ℕ → (Cells → Result A Astray) → Result A Astray
paired_then cells segment offset next =
    free_then (cells (address segment offset)) (free_then (cells (address segment (next_offset offset))) (next (with_word cells segment offset Paired)))

-- ## Bytes one after another, by segment and offset

abbrev pub known_bytes : Cells → ℕ → ℕ → ℕ → Result (List ℕ) Astray
known_bytes cells segment offset zero = Ok []
known_bytes cells segment offset (suc n) =
    known_then (cells (address segment offset)) (λ b. and_then (known_bytes cells segment (next_offset offset) n) (λ bs. Ok (b ∷ bs)))

abbrev pub with_bytes : Cells → ℕ → ℕ → List ℕ → Result Cells Astray
with_bytes cells segment offset [] = Ok cells
with_bytes cells segment offset (b ∷ bs) =
    free_then (cells (address segment offset)) (with_bytes (with_cell cells (address segment offset) (Known b)) segment (next_offset offset) bs)

-- ## Words that are known

abbrev pub word_of_cells : Cell → Cell → Option ℕ
word_of_cells (Known low) (Known high) = Some (word_of low high)
word_of_cells _ _ = None

abbrev pub known_word : Cells → ℕ → ℕ → Option ℕ
known_word cells segment offset = word_of_cells (cells (address segment offset)) (cells (address segment (next_offset offset)))

-- ## The bytes below SP are lost

-- the byte so many behind the one right below an offset
abbrev pub below : ℕ → ℕ → ℕ → ℕ
below segment offset k = address segment ((offset + 65535 - k) % 65536)

-- whether a place is one of the n bytes below an offset
abbrev pub is_below : ℕ → ℕ → ℕ → ℕ → Bool
is_below zero segment offset place = false
is_below (suc n) segment offset place = (place == below segment offset n) || is_below n segment offset place

abbrev pub lost : Cell → Cell
lost (Known v) = Unknown
lost Unknown = Unknown
lost Kept = Kept
lost Paired = Paired

abbrev pub lost_if : Bool → Cell → Cell
lost_if true cell = lost cell
lost_if false cell = cell

-- The 64 bytes below SP are not known from here on.
unfoldable pub with_lost : ℕ → ℕ → Cells → Cells
with_lost segment offset cells place = lost_if (is_below 64 segment offset place) (cells place)
