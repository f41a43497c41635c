-- The index of an overlay file: where each overlay's code stands, and how much of it there is.
use Rattle.std.specs.Prelude.{ℕ, ◌+◌, ◌*◌, List, [], ◌∷◌, length, take, drop, map}
use Rattle.mz_file.specs.Words.{words_at}
use Rattle.overlay_file.specs.declared.overlay.OverlayCode8086.{OverlayCode8086}
use Rattle.overlay_file.specs.declared.overlay.OvrEntry.{OvrEntry}

-- the entry of an overlay whose name begins at this place
abbrev pub entry_of : ℕ → OverlayCode8086 → OvrEntry
entry_of at overlay = record {
  name = overlay.name;
  place = at + 5 + length overlay.name;
  size = length overlay.code;
  fixups = length overlay.fixups;
}

-- The fixups follow the code; the next overlay's name follows the fixups.
abbrev pub fixups_place : OvrEntry → ℕ
fixups_place entry = entry.place + entry.size

abbrev pub entry_end : OvrEntry → ℕ
entry_end entry = entry.place + entry.size + 2 * entry.fixups

abbrev pub index_from : ℕ → List OverlayCode8086 → List OvrEntry
index_from at [] = []
index_from at (overlay ∷ overlays) = entry_of at overlay ∷ index_from (entry_end (entry_of at overlay)) overlays

-- the index of these overlays' file, whose front has 8 bytes
abbrev pub index_of : List OverlayCode8086 → List OvrEntry
index_of overlays = index_from 8 overlays

-- what an entry names in the bytes of a file
abbrev pub overlay_of : List ℕ → OvrEntry → OverlayCode8086
overlay_of bytes entry = record {
  name = entry.name;
  code = take entry.size (drop entry.place bytes);
  fixups = words_at bytes (fixups_place entry) entry.fixups;
}

abbrev pub overlays_of : List ℕ → List OvrEntry → List OverlayCode8086
overlays_of bytes index = map (overlay_of bytes) index
