-- Which overlays the live returns of a state denote.
use Rattle.std.specs.Prelude.{ℕ, ◌==◌, Bool, true, false, List, [], ◌∷◌, Option, Some, None, slice_set}
use Rattle.std.specs.List.{list_any}
use Rattle.cpu_8086.specs.State.{State}
use Rattle.return_repair.specs.declared.table.Loaded.{Loaded}
use Rattle.return_repair.specs.Chain.{chain_of, links_of, live_places}
use Rattle.return_repair.specs.Pairs.{pair_at, owner}

abbrev pub is_overlay : ℕ → Option ℕ → Bool
is_overlay v None = false
is_overlay v (Some number) = number == v

-- whether the pair at a place denotes an overlay
abbrev pub denotes : List ℕ → ℕ → List Loaded → ℕ → ℕ → Bool
denotes memory ss table v place = is_overlay v (owner table (pair_at memory ss place).segment)

-- whether some live pair does
abbrev pub is_live : Bool → State → Bool → List Loaded → ℕ → Bool
is_live marked s pending table v =
    list_any (denotes s.memory s.registers.ss table v) (live_places s.registers pending (links_of (chain_of marked s)))

-- flags by overlay, with that of one overlay set
abbrev pub flagged : List Bool → Option ℕ → List Bool
flagged flags None = flags
flagged flags (Some number) = slice_set flags number true

-- with those set that the pairs at these places denote
abbrev pub flagged_places : List ℕ → ℕ → List Loaded → List Bool → List ℕ → List Bool
flagged_places memory ss table flags [] = flags
flagged_places memory ss table flags (place ∷ places) =
    flagged_places memory ss table (flagged flags (owner table (pair_at memory ss place).segment)) places
