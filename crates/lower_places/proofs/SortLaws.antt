-- A variable that the meaning finds has the sort that its unit tells.
use Rattle.std.proofs.Common.{◌≡◌, ℕ, zero, suc, ◌+◌, ◌-◌, Bool, true, false, List, [], ◌∷◌, map, Option, Some, None, Ok, Err, ap}
use Rattle.std.specs.Prelude.{nat_lt, if◌then◌else◌, slice_get}
use Rattle.std.specs.Option.{option_map}
use Rattle.std.specs.Prelude.{option_and_then}
use Rattle.type_layout.specs.declared.definitions.TypeId.{TypeId}
use Rattle.typed_tree.specs.declared.units.Program.{Program}
use Rattle.typed_tree.specs.type_fits.Routines.{variables_of}
use Rattle.tp_meaning.specs.Trees.{Key, Spot}
use Rattle.tp_meaning.specs.Found.{Found, ◌>>=◌, known}
use Rattle.tp_meaning.specs.Store.{Store}
use Rattle.tp_meaning.specs.Programs.{Sort, sort_in, key_of, global_serial, global_sort}
use Rattle.tp_meaning.specs.Activations.{Reached, Level, Activation, whole, is_alias, spot_through, variable_in, global_at, first_held, variable_by}
use Rattle.lower_places.specs.Sorts.{Surroundings, sort_of_number, sort_by_level, surroundings_of}
use Rattle.lower_places.specs.Laws.{VariablesHaveSorts}

-- what was found with a sort has it
found-sort : (spot : Spot) (sort : Sort) (at : Reached) → (let r : Found Reached = Ok (record { spot = spot; sort = sort }) in r ≡ Ok at) → (let o : Option Sort = Some sort in o ≡ Some at.sort)
found-sort spot sort at e =
    let one : Reached = record { spot = spot; sort = sort } in
    let same : one ≡ at = cc in
    ap (λ (r : Reached). let o : Option Sort = Some r.sort in o) same

module _ (program : Program) (f : Activation) (number : ℕ) (store : Store) (at : Reached) where
  abbrev here : Surroundings
  here = surroundings_of program f

  abbrev Has : Option Sort → Type 0
  Has o = o ≡ Some at.sort

  -- ---- globals

  global-by : (serial : Spot) (o : Option Sort) → (let r : Found Reached = known o >>= λ sort. Ok (record { spot = serial; sort = sort }) in r ≡ Ok at) → Has o
  global-by serial None e = absurd cc
  global-by serial (Some sort) e = found-sort serial sort at e

  key-by : (o : Option Key) → (let r : Found Reached = known o >>= global_at program in r ≡ Ok at) → Has (option_and_then (global_sort program) o)
  key-by None e = absurd cc
  key-by (Some key) e = global-by (whole (global_serial program key)) (global_sort program key) e

  -- ---- variables of routines

  spot-by : (spot : Found Spot) (sort : Sort) → (let r : Found Reached = spot >>= λ spot. Ok (record { spot = spot; sort = sort }) in r ≡ Ok at) → Has (Some sort)
  spot-by (Ok spot) sort e = found-sort spot sort at e
  spot-by (Err trap) sort e = absurd cc

  type-by : (through : Found Spot) (o : Option TypeId) → (let r : Found Reached = known o >>= λ ty. through >>= λ spot. Ok (record { spot = spot; sort = sort_in f.unit ty }) in r ≡ Ok at) → Has (option_map (sort_in f.unit) o)
  type-by through None e = absurd cc
  type-by through (Some ty) e = spot-by through (sort_in f.unit ty) e

  level-by : (level : Level) → variable_in f.unit number store level ≡ Ok at → Has (sort_of_number here number level.routine)
  level-by level e = type-by (spot_through (is_alias level.routine number) (whole (level.first + number)) store) (slice_get (variables_of level.routine) number) e

  levels-by : (levels : List Level) (k : ℕ) → (let r : Found Reached = known (slice_get levels k) >>= variable_in f.unit number store in r ≡ Ok at) → Has (option_and_then (sort_of_number here number) (option_map (λ (level : Level). level.routine) (slice_get levels k)))
  levels-by [] k e = absurd cc
  levels-by (level ∷ levels) zero e = level-by level e
  levels-by (level ∷ levels) (suc k) e = levels-by levels k e

  -- ---- what `with`s hold

  held-by : (withs : List Reached) (k : ℕ) → known (slice_get withs k) ≡ Ok at → Has (slice_get (map (λ (one : Reached). one.sort) withs) k)
  held-by [] k e = absurd cc
  held-by (one ∷ withs) zero e = let same : one ≡ at = cc in ap (λ (r : Reached). let o : Option Sort = Some r.sort in o) same
  held-by (one ∷ withs) (suc k) e = held-by withs k e

  either-by : (t : Bool) → (let r : Found Reached = if t then (known (slice_get f.levels 0) >>= variable_in f.unit number store) else known (slice_get f.withs (number - first_held)) in r ≡ Ok at) →
      Has (if t then option_and_then (sort_of_number here number) (here.routines 0) else slice_get here.withs (number - first_held))
  either-by true e = levels-by f.levels 0 e
  either-by false e = held-by f.withs (number - first_held) e

pub variables-have-sorts : VariablesHaveSorts
variables-have-sorts program f variable store at e = by variable.level e
  where
    by : (level : ℕ) → variable_by program f level variable.unit variable.number store ≡ Ok at → sort_by_level (surroundings_of program f) level variable.unit variable.number ≡ Some at.sort
    by zero e = key-by program f variable.number store at (key_of f.unit variable.unit variable.number) e
    by (suc zero) e = either-by program f variable.number store at (nat_lt variable.number first_held) e
    by (suc (suc links)) e = levels-by program f variable.number store at f.levels (suc links) e
