-- How variables are reached, by their homes and levels.
use Rattle.std.proofs.Common.{◌≡◌, ℕ, zero, suc, ◌-◌, ◌<◌, ℤ, List, [], ◌∷◌, map, Option, Some, None, refl, ap, ◌∙◌, pos, arith}
use Rattle.std.specs.Prelude.{◌-ℤ◌, option_and_then, slice_get, Bool}
use Rattle.std.specs.Option.{option_map, option_map_or}
use Rattle.type_layout.specs.declared.definitions.TypeDef.{TypeDef}
use Rattle.typed_tree.specs.declared.expressions.Variable.{Variable}
use Rattle.typed_tree.specs.declared.units.Routine.{Routine}
use Rattle.flat_code.specs.declared.tree.Address.TheVariants.{Global, Local, Outer, Through}
use Rattle.tp_meaning.specs.Activations.{is_self_of}
use Rattle.lower_places.specs.declared.homes.Home.{Home as PlacedHome}
use Rattle.lower_places.specs.declared.homes.Home.TheVariants as placed_home
use Rattle.lower_places.specs.declared.reach.Reach.{Reach}
use Rattle.lower_places.specs.declared.reach.Reach.TheVariants.{At, Beyond}
use Rattle.lower_places.specs.declared.scene.Held.{Held}
use Rattle.lower_places.specs.Frames.{Home, In, Behind, return_bytes, home_of}
use Rattle.lower_places.specs.Placed.{placed}
use Rattle.lower_places.specs.Scenes.{Setting, routine_around, view_held}
use Rattle.lower_places.specs.Reaches.{slot_below, own_reach, outer_reach, outer_reach_in, held_reach, inner_reach, reach_of, is_self_by_level}

-- of the routine itself, by where it is placed
own-at : PlacedHome → Reach
own-at (placed_home.In at) = At (Local at)
own-at (placed_home.Behind at) = At (Through at 0)

-- of a routine round it
outer-at : ℕ → ℕ → PlacedHome → Reach
outer-at links bytes (placed_home.In at) = At (Outer links (at -ℤ pos bytes))
outer-at links bytes (placed_home.Behind at) = Beyond (Outer links (at -ℤ pos bytes))

module _ (types : List TypeDef) (routine : Routine) where
  own-placed : (home : Home) → own_reach types routine home ≡ own-at (placed types routine home)
  unfolding own-at
  own-placed (In part) = refl
  own-placed (Behind part) = refl

  outer-placed : (links : ℕ) (home : Home) → outer_reach types routine links home ≡ outer-at links (return_bytes routine) (placed types routine home)
  unfolding outer-at
  outer-placed links (In part) = refl
  outer-placed links (Behind part) = refl

  own-found : (o : Option Home) (home : PlacedHome) → option_map (placed types routine) o ≡ Some home → option_map (own_reach types routine) o ≡ Some (own-at home)
  own-found None home e = absurd cc
  own-found (Some one) home e = let same : placed types routine one ≡ home = cc in ap (λ (r : Reach). let o : Option Reach = Some r in o) (own-placed one ∙ ap own-at same)

  outer-found : (links : ℕ) (o : Option Home) (home : PlacedHome) → option_map (placed types routine) o ≡ Some home → option_map (outer_reach types routine links) o ≡ Some (outer-at links (return_bytes routine) home)
  outer-found links None home e = absurd cc
  outer-found links (Some one) home e = let same : placed types routine one ≡ home = cc in ap (λ (r : Reach). let o : Option Reach = Some r in o) (outer-placed links one ∙ ap (outer-at links (return_bytes routine)) same)

  pub own_in : (number : ℕ) (at : ℤ) → option_map (placed types routine) (home_of types routine number) ≡ Some (placed_home.In at)
      → option_map (own_reach types routine) (home_of types routine number) ≡ Some (At (Local at))
  unfolding own-at
  own_in number at e = own-found (home_of types routine number) (placed_home.In at) e

  pub own_behind : (number : ℕ) (at : ℤ) → option_map (placed types routine) (home_of types routine number) ≡ Some (placed_home.Behind at)
      → option_map (own_reach types routine) (home_of types routine number) ≡ Some (At (Through at 0))
  unfolding own-at
  own_behind number at e = own-found (home_of types routine number) (placed_home.Behind at) e

  pub outer_in : (links number : ℕ) (at : ℤ) → option_map (placed types routine) (home_of types routine number) ≡ Some (placed_home.In at)
      → outer_reach_in types links number routine ≡ Some (At (Outer links (at -ℤ pos (return_bytes routine))))
  unfolding outer-at
  outer_in links number at e = outer-found links (home_of types routine number) (placed_home.In at) e

  pub outer_behind : (links number : ℕ) (at : ℤ) → option_map (placed types routine) (home_of types routine number) ≡ Some (placed_home.Behind at)
      → outer_reach_in types links number routine ≡ Some (Beyond (Outer links (at -ℤ pos (return_bytes routine))))
  unfolding outer-at
  outer_behind links number at e = outer-found links (home_of types routine number) (placed_home.Behind at) e

-- what a `with` holds
pub held_by : (here : Setting) (withs : List Held) (k : ℕ) (held : Held) → slice_get withs k ≡ Some held
    → option_map (held_reach here) (slice_get (map view_held withs) k) ≡ Some (At (Through (slot_below here.locals held.slot 4) 0))
held_by here [] k held e = absurd cc
held_by here (one ∷ withs) zero held e =
    let same : one ≡ held = cc in
    ap (λ (h : Held). let o : Option Reach = Some (At (Through (slot_below here.locals h.slot 4) 0)) in o) same
held_by here (one ∷ withs) (suc k) held e = held_by here withs k held e

-- ---- by levels

pub global_level : (here : Setting) (variable : Variable) → variable.level ≡ 0 → reach_of here variable ≡ Some (At (Global variable.unit variable.number 0))
unfolding reach_of
global_level here variable e = ap (λ level. Rattle.lower_places.specs.Reaches.reach_by_level here level variable.unit variable.number) e

pub inner_level : (here : Setting) (variable : Variable) → variable.level ≡ 1 → reach_of here variable ≡ inner_reach here variable.number
unfolding reach_of
inner_level here variable e = ap (λ level. Rattle.lower_places.specs.Reaches.reach_by_level here level variable.unit variable.number) e

pub outer_level : (here : Setting) (variable : Variable) → 1 < variable.level
    → reach_of here variable ≡ option_and_then (outer_reach_in here.unit.types.types (variable.level - 1) variable.number) (routine_around here.unit here.routine (variable.level - 1))
unfolding reach_of
outer_level here variable h = by variable.level h
  where
    by : (level : ℕ) → 1 < level → Rattle.lower_places.specs.Reaches.reach_by_level here level variable.unit variable.number
        ≡ option_and_then (outer_reach_in here.unit.types.types (level - 1) variable.number) (routine_around here.unit here.routine (level - 1))
    by zero h = absurd (omega (arith, h))
    by (suc zero) h = absurd (omega (arith, h))
    by (suc (suc links)) h =
        let e : suc links ≡ suc (suc links) - 1 = omega arith in
        ap (λ k. option_and_then (outer_reach_in here.unit.types.types k variable.number) (routine_around here.unit here.routine k)) e

pub self_level : (here : Setting) (level number : ℕ) → 0 < level
    → is_self_by_level here level number ≡ option_map_or (λ (routine : Routine). is_self_of routine number) (routine_around here.unit here.routine (level - 1)) Rattle.std.specs.Prelude.false
self_level here zero number h = absurd (omega (arith, h))
self_level here (suc links) number h =
    let e : links ≡ suc links - 1 = omega arith in
    ap (λ k. option_map_or (λ (routine : Routine). is_self_of routine number) (routine_around here.unit here.routine k) Rattle.std.specs.Prelude.false) e
