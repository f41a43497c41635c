-- The order of initialisation.
use Rattle.std.specs.Prelude.{◌≡◌, ℕ, zero, suc, Bool, true, false, ◌||◌, nat_eq, cond, List, [], ◌∷◌, ◌++◌, Some, length, slice_get, get_or}
use Rattle.std.specs.List.{list_any}
use Rattle.unit_interface.specs.declared.edges.UsesOf.{UsesOf}
use Rattle.unit_interface.specs.declared.visits.Progress.{Progress}
use Rattle.unit_interface.specs.declared.order.OrderError.{OrderError}
use Rattle.unit_interface.specs.declared.order.OrderError.TheVariants.{Circular, NoMemory}
use Rattle.unit_interface.specs.Uses.{interface_edges, all_edges}
use Rattle.unit_interface.specs.Circles.{IsOnCircle, next}

abbrev pub no_progress : Progress
no_progress = record { met = []; order = [] }

abbrev pub meet : ℕ → Progress → Progress
meet place progress = record { met = progress.met ++ place ∷ []; order = progress.order }

abbrev pub finish : ℕ → Progress → Progress
finish place progress = record { met = progress.met; order = progress.order ++ place ∷ [] }

-- one visit after the other
abbrev pub visit_each : (Progress → ℕ → Progress) → Progress → List ℕ → Progress
visit_each one progress [] = progress
visit_each one progress (place ∷ places) = visit_each one (one progress place) places

-- A unit that was met is passed over. Any other is met, the units that it uses are visited, and then it is finished.
-- At most `room` units lie on the way to one.
abbrev pub visit : ℕ → List (List ℕ) → Progress → ℕ → Progress
visit zero edges progress place = progress
visit (suc room) edges progress place =
    cond (list_any (nat_eq place) progress.met) progress
    (finish place (visit_each (visit room edges) (meet place progress) (get_or edges place [])))

-- the units that `start` needs, in order of initialisation
abbrev pub start_order : List UsesOf → ℕ → List ℕ
start_order units start = (visit (length units) (all_edges units) no_progress start).order

-- a unit of this name lies on a circle of interface uses
pub record IsCircular (units : List UsesOf) (name : List ℕ) : Type 0 where
  pub place : ℕ
  pub unit : UsesOf
  pub stands : slice_get units place ≡ Some unit
  pub named : unit.name ≡ name
  pub circle : IsOnCircle (interface_edges units) place

abbrev pub IsCause : List UsesOf → OrderError → Type 0
IsCause units (Circular name) = IsCircular units name
IsCause units NoMemory = Unit {0}

abbrev pub repeats : List ℕ → Bool
repeats [] = false
repeats (place ∷ places) = list_any (nat_eq place) places || repeats places

-- An order of initialisation for a start: no unit twice, the start itself last, and with each unit those that it uses.
pub record IsOrderFor (edges : List (List ℕ)) (start : ℕ) (order : List ℕ) : Type 0 where
  pub once : repeats order ≡ false
  pub needed : (from to : ℕ) → list_any (nat_eq from) order ≡ true → list_any (nat_eq to) (next edges from) ≡ true
      → list_any (nat_eq to) order ≡ true
  pub before : List ℕ
  pub last : order ≡ before ++ start ∷ []
