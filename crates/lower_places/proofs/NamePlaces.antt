-- Names by their places, and the routines round others.
use Rattle.std.proofs.Common.{◌≡◌, ℕ, zero, suc, ◌+◌, ◌-◌, ◌<◌, Bool, true, false, cond, List, [], ◌∷◌, ◌++◌, length, Option, Some, None, sym, ap, ◌∙◌, arith}
use Rattle.std.specs.Prelude.{◌==◌, if◌then◌else◌, option_and_then, slice_get, position, codes}
use Rattle.std.specs.Option.{option_map}
use Rattle.std.specs.List.{position_from}
use Rattle.std.proofs.lemmas.Iterator.Adapters.{position_from-zero}
use Rattle.type_layout.specs.declared.definitions.Origin.{Origin}
use Rattle.type_layout.specs.Words.{same_bytes}
use Rattle.typed_tree.specs.declared.units.Routine.{Routine}
use Rattle.typed_tree.specs.declared.units.Unit.{Unit as TypedUnit}
use Rattle.tp_meaning.specs.Trees.{Key}
use Rattle.tp_meaning.specs.Programs.{Sort, class_by}
use Rattle.lower_places.specs.Data.{flat_names}
use Rattle.lower_places.specs.Scenes.{routine_in, outer_of, routine_around}
use Rattle.lower_places.specs.Reaches.{class_at, class_of, outer_number, links_within}

abbrev pick : Bool → ℕ → Option ℕ → Option ℕ
pick t j rest = cond t (Some j) rest

from-front : {A : Type 0} (p : A → Bool) (xs ys : List A) (j k : ℕ) → position_from p j xs ≡ Some k → position_from p j (xs ++ ys) ≡ Some k
from-front p [] ys j k e = absurd cc
from-front p (x ∷ xs) ys j k e = by (p x) (from-front p xs ys (j + 1) k) e
  where
    by : (t : Bool) → (position_from p (j + 1) xs ≡ Some k → position_from p (j + 1) (xs ++ ys) ≡ Some k) → pick t j (position_from p (j + 1) xs) ≡ Some k → pick t j (position_from p (j + 1) (xs ++ ys)) ≡ Some k
    by true more e = e
    by false more e = more e

from-back : {A : Type 0} (p : A → Bool) (xs ys : List A) (j k : ℕ) → position_from p j xs ≡ None → position_from p (j + length xs) ys ≡ Some k → position_from p j (xs ++ ys) ≡ Some k
from-back p [] ys j k none e = let z : j ≡ j + 0 = omega arith in ap (λ n. position_from p n ys) z ∙ e
from-back p (x ∷ xs) ys j k none e = by (p x) (λ rest. from-back p xs ys (j + 1) k rest (ap (λ n. position_from p n ys) z ∙ e)) none
  where
    z : j + 1 + length xs ≡ j + suc (length xs)
    z = omega arith

    by : (t : Bool) → (position_from p (j + 1) xs ≡ None → position_from p (j + 1) (xs ++ ys) ≡ Some k) → pick t j (position_from p (j + 1) xs) ≡ None → pick t j (position_from p (j + 1) (xs ++ ys)) ≡ Some k
    by true more none = absurd cc
    by false more none = more none

from-later : {A : Type 0} (p : A → Bool) (xs : List A) (j m k : ℕ) → position_from p j xs ≡ Some k → position_from p (m + j) xs ≡ Some (m + k)
from-later p [] j m k e = absurd cc
from-later p (x ∷ xs) j m k e = by (p x) (λ rest. ap (λ n. position_from p n xs) z ∙ from-later p xs (j + 1) m k rest) e
  where
    z : m + j + 1 ≡ m + (j + 1)
    z = omega arith

    by : (t : Bool) → (position_from p (j + 1) xs ≡ Some k → position_from p (m + j + 1) xs ≡ Some (m + k)) → pick t j (position_from p (j + 1) xs) ≡ Some k → pick t (m + j) (position_from p (m + j + 1) xs) ≡ Some (m + k)
    by true more e = let same : j ≡ k = cc in ap (λ n. let o : Option ℕ = Some (m + n) in o) same
    by false more e = more e

position-front : {A : Type 0} (p : A → Bool) (xs ys : List A) (k : ℕ) → position p xs ≡ Some k → position p (xs ++ ys) ≡ Some k
position-front p xs ys k e = position_from-zero p (xs ++ ys) ∙ from-front p xs ys 0 k (sym (position_from-zero p xs) ∙ e)

position-back : {A : Type 0} (p : A → Bool) (xs ys : List A) (k : ℕ) → position p xs ≡ None → position p ys ≡ Some k → position p (xs ++ ys) ≡ Some (length xs + k)
position-back p xs ys k none e =
    let later = from-later p ys 0 (length xs) k (sym (position_from-zero p ys) ∙ e) in
    let z : 0 + length xs ≡ length xs + 0 = omega arith in
    position_from-zero p (xs ++ ys) ∙ from-back p xs ys 0 (length xs + k) (sym (position_from-zero p xs) ∙ none) (ap (λ n. position_from p n ys) z ∙ later)

pub place_first : (unit : TypedUnit) (name : List ℕ) (k : ℕ) → position (same_bytes name) unit.names ≡ Some k → position (same_bytes name) (flat_names unit) ≡ Some k
place_first unit name k e = position-front (same_bytes name) unit.names (unit.types.units ++ codes "OVERLAY" ∷ []) k e

pub place_second : (unit : TypedUnit) (name : List ℕ) (k : ℕ) → position (same_bytes name) unit.names ≡ None → position (same_bytes name) unit.types.units ≡ Some k
    → position (same_bytes name) (flat_names unit) ≡ Some (length unit.names + k)
place_second unit name k none e =
    position-back (same_bytes name) unit.names (unit.types.units ++ codes "OVERLAY" ∷ []) k none (position-front (same_bytes name) unit.types.units (codes "OVERLAY" ∷ []) k e)

pub class_found : (unit : TypedUnit) (sort : Sort) (origin : Origin) (name : List ℕ) (place : ℕ) → slice_get sort.table.origins sort.ty.0 ≡ Some origin
    → slice_get sort.table.units origin.unit ≡ Some name → position (same_bytes name) (flat_names unit) ≡ Some place → class_of unit sort ≡ Some (place, origin.number)
class_found unit sort origin name place from named at =
    let key : Key = record { unit = name; number = origin.number } in
    ap (λ (o : Option Origin). option_and_then (class_at unit) (option_and_then (class_by sort.table) o)) from
    ∙ ap (λ (o : Option (List ℕ)). option_and_then (class_at unit) (option_map (λ name. let key : Key = record { unit = name; number = origin.number } in key) o)) named
    ∙ ap (option_map (λ place. (place, origin.number))) at

-- ---- routines round others

pub around_more : (unit : TypedUnit) (routine : Routine) (links : ℕ) → 0 < links
    → routine_around unit routine links ≡ option_and_then (outer_of unit) (routine_around unit routine (links - 1))
around_more unit routine zero h = absurd (omega (arith, h))
around_more unit routine (suc links) h =
    let e : links ≡ suc links - 1 = omega arith in
    ap (λ k. option_and_then (outer_of unit) (routine_around unit routine k)) e

pub outer_found : (unit : TypedUnit) (number : ℕ) (routine : Routine) → routine_in unit number ≡ Some routine → outer_number unit number ≡ routine.outer
outer_found unit number routine e = ap (option_and_then (λ (routine : Routine). routine.outer)) e

pub links_more : (unit : TypedUnit) (to most from : ℕ) → 0 < most
    → links_within unit to most (Some from) ≡ (if from == to then Some 0 else option_map suc (links_within unit to (most - 1) (outer_number unit from)))
links_more unit to zero from h = absurd (omega (arith, h))
links_more unit to (suc most) from h =
    let e : most ≡ suc most - 1 = omega arith in
    ap (λ k. if from == to then Some 0 else option_map suc (links_within unit to k (outer_number unit from))) e
