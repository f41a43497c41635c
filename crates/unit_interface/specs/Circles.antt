-- Circles of uses.
use Rattle.std.specs.Prelude.{◌≡◌, ◌⊎◌, ℕ, zero, suc, Bool, true, false, ◌||◌, nat_eq, List, [], ◌∷◌, length, map, get_or}
use Rattle.std.specs.List.{list_any}

-- the units that a unit uses
abbrev pub next : List (List ℕ) → ℕ → List ℕ
next edges place = get_or edges place []

-- a walk over uses leads from a place to a target in at least one step and at most so many
abbrev pub LeadsWithin : List (List ℕ) → ℕ → ℕ → ℕ → Type 0
LeadsWithin edges zero from target = ⊥
LeadsWithin edges (suc steps) from target =
    (to : ℕ) × (list_any (nat_eq to) (next edges from) ≡ true) × ((to ≡ target) ⊎ LeadsWithin edges steps to target)

-- a walk over uses leads from a unit back to it
pub record IsOnCircle (edges : List (List ℕ)) (place : ℕ) : Type 0 where
  pub steps : ℕ
  pub leads : LeadsWithin edges steps place place

abbrev pub leads : List Bool → ℕ → List ℕ → Bool
leads before target [] = false
leads before target (to ∷ uses) = nat_eq to target || get_or before to false || leads before target uses

-- which units lead to the target within so many steps
abbrev pub reach : ℕ → List (List ℕ) → ℕ → List Bool
reach zero edges target = []
reach (suc steps) edges target = map (leads (reach steps edges target) target) edges

abbrev pub returns : List (List ℕ) → ℕ → Bool
returns edges place = get_or (reach (length edges) edges place) place false
