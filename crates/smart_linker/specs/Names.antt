-- Which overlays a program has.
use Rattle.std.specs.Prelude.{ℕ, if◌then◌else◌, List, [], ◌∷◌, map}
use Rattle.overlay_file.specs.declared.overlay.OverlayCode8086.{OverlayCode8086}
use Rattle.smart_linker.specs.declared.unit.LinkUnit.{LinkUnit}

-- the names of overlaid units, in their order
abbrev pub overlaid_names : List LinkUnit → List (List ℕ)
overlaid_names [] = []
overlaid_names (unit ∷ units) = if unit.overlaid then unit.name ∷ overlaid_names units else overlaid_names units

abbrev pub name_of : OverlayCode8086 → List ℕ
name_of overlay = overlay.name

-- the names of overlays
abbrev pub names_of : List OverlayCode8086 → List (List ℕ)
names_of overlays = map name_of overlays
