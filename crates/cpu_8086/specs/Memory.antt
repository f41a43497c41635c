-- Bytes and words by segment and offset. Both wrap: an address at 2^20, an offset at 2^16, also inside a word.
use Rattle.std.specs.Prelude.{ℕ, ◌+◌, ◌*◌, ◌/◌, ◌%◌, List, slice_index, slice_set}

-- the linear address of an offset in a segment
abbrev pub address : ℕ → ℕ → ℕ
address segment offset = (16 * segment + offset) % 1048576

-- the offset behind this one
abbrev pub next_offset : ℕ → ℕ
next_offset offset = (offset + 1) % 65536

-- the word whose low byte comes first
abbrev pub word_of : ℕ → ℕ → ℕ
word_of low high = low + 256 * high

abbrev pub low_byte : ℕ → ℕ
low_byte v = v % 256

abbrev pub high_byte : ℕ → ℕ
high_byte v = v / 256

unfoldable pub load_byte : List ℕ → ℕ → ℕ → ℕ
load_byte memory segment offset = slice_index memory (address segment offset)

unfoldable pub store_byte : List ℕ → ℕ → ℕ → ℕ → List ℕ
store_byte memory segment offset v = slice_set memory (address segment offset) v

unfoldable pub load_word : List ℕ → ℕ → ℕ → ℕ
load_word memory segment offset = word_of (load_byte memory segment offset) (load_byte memory segment (next_offset offset))

unfoldable pub store_word : List ℕ → ℕ → ℕ → ℕ → List ℕ
store_word memory segment offset v = store_byte (store_byte memory segment offset (low_byte v)) segment (next_offset offset) (high_byte v)
