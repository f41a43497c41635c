-- The format of an overlay file: which lists of overlays have a file, and its bytes.
use Rattle.std.specs.Prelude.{ℕ, ◌+◌, ◌≤◌, ◌<◌, List, [], ◌∷◌, ◌++◌, length}
use Rattle.std.specs.List.{flat_map, AllByRecursion}
use Rattle.type_layout.specs.Words.{IsName}
use Rattle.mz_file.specs.Words.{bytes_of_words}
use Rattle.overlay_file.specs.declared.overlay.OverlayCode8086.{OverlayCode8086}

-- Fixups rise by at least 2, from `least` on, and the word at each lies inside the code.
abbrev pub AreFixups : ℕ → ℕ → List ℕ → Type 0
AreFixups size least [] = Unit {0}
AreFixups size least (fixup ∷ fixups) = (least ≤ fixup) × (fixup + 2 ≤ size) × AreFixups size (fixup + 2) fixups

-- an overlay that a file can hold
pub record IsOverlay (overlay : OverlayCode8086) : Type 0 where
  pub name : IsName overlay.name
  pub some : 0 < length overlay.code
  pub size : length overlay.code ≤ 65520
  pub fixups : AreFixups (length overlay.code) 0 overlay.fixups

pub record AreOverlays (overlays : List OverlayCode8086) : Type 0 where
  pub some : 0 < length overlays
  pub few : length overlays ≤ 256
  pub each : AllByRecursion IsOverlay overlays

-- a name is its length and its bytes
abbrev pub name_bytes : List ℕ → List ℕ
name_bytes name = length name ∷ name

-- the sizes of the code and of the list of fixups stand before both
abbrev pub sizes_bytes : OverlayCode8086 → List ℕ
sizes_bytes overlay = bytes_of_words (length overlay.code ∷ length overlay.fixups ∷ [])

unfoldable pub overlay_bytes : OverlayCode8086 → List ℕ
overlay_bytes overlay =
    name_bytes overlay.name ++ (sizes_bytes overlay ++ (overlay.code ++ bytes_of_words overlay.fixups))

-- the letters TOV1, the version 1, and how many overlays there are
abbrev pub front_bytes : ℕ → List ℕ
front_bytes count = 0x54 ∷ 0x4F ∷ 0x56 ∷ 0x31 ∷ bytes_of_words (1 ∷ count ∷ [])

-- The bytes of the file. Nothing follows the last overlay.
unfoldable pub spelling : List OverlayCode8086 → List ℕ
spelling overlays = front_bytes (length overlays) ++ flat_map overlay_bytes overlays
