-- The bytes of a stub whose overlay is out, as the image holds them.
use Rattle.std.specs.Prelude.{ℕ, ◌/◌, ◌%◌, List, [], ◌∷◌, ◌++◌, length, replicate}
use Rattle.std.specs.List.{flat_map}
use Rattle.mz_file.specs.Words.{bytes_of_words}
use Rattle.overlay_file.specs.declared.overlay.OvrEntry.{OvrEntry}

-- INT 3Fh, the offset of the routine, and a zero
abbrev pub entry_bytes : ℕ → List ℕ
entry_bytes offset = bytes_of_words (0x3FCD ∷ offset ∷ []) ++ 0 ∷ []

-- INT 3Fh, no saved offset, where the code is in the file, its size, the numbers of fixups and of entries, no load segment, no next stub, and zeros
abbrev pub field_bytes : OvrEntry → ℕ → List ℕ
field_bytes entry entries =
    bytes_of_words (0x3FCD ∷ 0 ∷ entry.place % 65536 ∷ entry.place / 65536 ∷ entry.size ∷ entry.fixups ∷ entries ∷ 0 ∷ 0 ∷ []) ++ replicate 14 0

-- the stub of an overlay, with an entry for each of these offsets
abbrev pub stub_bytes : OvrEntry → List ℕ → List ℕ
stub_bytes entry offsets = field_bytes entry (length offsets) ++ flat_map entry_bytes offsets
