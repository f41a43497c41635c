-- The units that a unit uses, as places in a list of units.
use Rattle.std.specs.Prelude.{ℕ, List, [], ◌∷◌, ◌++◌, Option, Some, None, map, position}
use Rattle.type_layout.specs.Words.{same_bytes}
use Rattle.unit_interface.specs.declared.edges.UsesOf.{UsesOf}

abbrev pub place_of : List UsesOf → List ℕ → Option ℕ
place_of units name = position (λ unit. same_bytes name unit.name) units

abbrev pub listed : Option ℕ → List ℕ
listed None = []
listed (Some place) = place ∷ []

-- the places of those of these names that are units of the list, in order
abbrev pub places_of : List UsesOf → List (List ℕ) → List ℕ
places_of units [] = []
places_of units (name ∷ names) = listed (place_of units name) ++ places_of units names

-- the units that each unit uses in its interface part
abbrev pub interface_edges : List UsesOf → List (List ℕ)
interface_edges units = map (λ unit. places_of units unit.interface) units

-- the units that each unit uses, those of its interface part first
abbrev pub all_edges : List UsesOf → List (List ℕ)
all_edges units = map (λ unit. places_of units unit.interface ++ places_of units unit.implementation) units
