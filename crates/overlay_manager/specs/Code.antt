-- Loading an overlay: its code at a segment, with its fixups made.
use Rattle.std.specs.Prelude.{◌≡◌, ℕ, ◌+◌, ◌<◌, nat_le, if◌then◌else◌, List, [], ◌∷◌, length, take, drop, slice_index}
use Rattle.cpu_8086.specs.Memory.{load_word, store_word, load_byte}
use Rattle.cpu_8086.specs.Process.{with_bytes}
use Rattle.mz_file.specs.Load.{loaded_segment, with_loaded_segment}
use Rattle.mz_file.specs.Words.{words_at}
use Rattle.overlay_file.specs.declared.overlay.OvrEntry.{OvrEntry}

-- A fixup is made: the word there is a segment from the image's start, which becomes a loaded one. One that doesn't lie
-- inside the code is left.
abbrev pub with_fixup : ℕ → ℕ → List ℕ → ℕ → List ℕ
with_fixup size segment memory fixup =
    if nat_le (fixup + 2) size then store_word memory segment fixup (loaded_segment (load_word memory segment fixup)) else memory

abbrev pub with_fixups : ℕ → ℕ → List ℕ → List ℕ → List ℕ
with_fixups size segment memory [] = memory
with_fixups size segment memory (fixup ∷ fixups) = with_fixups size segment (with_fixup size segment memory fixup) fixups

-- so many bytes of a file from a place on
abbrev pub part_of : List ℕ → ℕ → ℕ → List ℕ
part_of bytes place count = take count (drop place bytes)

-- the bytes of an overlay's fixups, and the place behind them
abbrev pub fixups_at : OvrEntry → ℕ
fixups_at entry = entry.place + entry.size

-- The memory with the code of an overlay at a segment, by the bytes of the file.
abbrev pub with_code : List ℕ → ℕ → OvrEntry → List ℕ → List ℕ
with_code memory segment entry bytes =
    with_fixups entry.size segment (with_bytes memory segment 0 (part_of bytes entry.place entry.size)) (words_at bytes (fixups_at entry) entry.fixups)

-- The code of an overlay as a list: its bytes, in which each fixup is made that lies inside them.
abbrev pub with_fixup_made : List ℕ → ℕ → List ℕ
with_fixup_made code fixup = if nat_le (fixup + 2) (length code) then with_loaded_segment code fixup else code

abbrev pub with_fixups_made : List ℕ → List ℕ → List ℕ
with_fixups_made code [] = code
with_fixups_made code (fixup ∷ fixups) = with_fixups_made (with_fixup_made code fixup) fixups

abbrev pub code_of : List ℕ → OvrEntry → List ℕ
code_of bytes entry = with_fixups_made (part_of bytes entry.place entry.size) (words_at bytes (fixups_at entry) entry.fixups)

-- these bytes stand at a segment's begin
abbrev pub Stands : List ℕ → ℕ → List ℕ → Type 0
Stands memory segment code = (k : ℕ) → k < length code → load_byte memory segment k ≡ slice_index code k
