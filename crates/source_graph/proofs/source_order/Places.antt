-- Where a source stands among all, and what it uses there.
use Rattle.std.proofs.Common.{◌≡◌, ℕ, ◌+◌, ◌<◌, Bool, true, false, ◌||◌, cond, nat_lt, nat_eq, List, [], ◌∷◌, ◌++◌, map, take, drop, length, Option, Some, None, refl, sym, ap, ◌∙◌, subst, append_assoc, arith}
use Rattle.std.specs.Prelude.{position, get_or}
use Rattle.std.specs.List.{All, list_any, position_or_len}
use Rattle.std.proofs.lemmas.Bool.{lt-ltb, eq-eqb}
use Rattle.std.proofs.lemmas.List.{map-append, length-append, length-map, take-append-drop}
use Rattle.std.proofs.lemmas.List.Elements.{All-nil, All-cons, All-weaker}
use Rattle.std.proofs.lemmas.List.Folds.{list_any-append}
use Rattle.std.proofs.lemmas.Slice.Eq.{bytes_eq-Decides}
use Rattle.type_layout.specs.Words.{same_bytes}
use Rattle.syntax_tree.specs.declared.identifier.Identifier.{Identifier}
use Rattle.syntax_tree.specs.source_tree.Sources.{used, used_in_interface}
use Rattle.source_graph.specs.declared.sources.Source.{Source}
use Rattle.source_graph.specs.declared.wanted.Wanted.{Wanted}
use Rattle.source_graph.specs.Walk.{wanted_at, wanted_by, names_of as names}
use Rattle.unit_interface.specs.declared.edges.UsesOf.{UsesOf}
use Rattle.unit_interface.specs.Uses.{place_of, listed, places_of, all_edges}
use Rattle.unit_interface.specs.Circles.{next}
use Rattle.source_graph.specs.source_order.Orders.{names_of, uses_in, all_uses}

or_left : (a b : Bool) → (a || b) ≡ false → a ≡ false
or_left true b is = is
or_left false b is = refl

or_right : (a b : Bool) → (a || b) ≡ false → b ≡ false
or_right true b is = absurd cc
or_right false b is = is

pub or_second : (a b : Bool) → b ≡ true → (a || b) ≡ true
or_second true b is = refl
or_second false b is = is

or_first : (a b : Bool) → a ≡ true → (a || b) ≡ true
or_first a b is = ap (λ (x : Bool). x || b) is

pub nat_same : (n : ℕ) → nat_eq n n ≡ true
nat_same n = eq-eqb n n refl

same_is : (name : List ℕ) → same_bytes name name ≡ true
same_is name = (bytes_eq-Decides name name).1 refl

-- ---- places

module _ {X : Type 0} (p : X → Bool) where
  first_at : (front : List X) (x : X) (rest : List X) → list_any p front ≡ false → p x ≡ true → position_or_len p (front ++ x ∷ rest) ≡ length front
  first_at [] x rest none here = rw here refl
  first_at (y ∷ front) x rest none here =
      let first : p y ≡ false = or_left (p y) (list_any p front) none in
      let behind = first_at front x rest (or_right (p y) (list_any p front) none) here in
      let long : 1 + length front ≡ length (y ∷ front) = omega arith in
      rw first (ap (λ (n : ℕ). 1 + n) behind ∙ long)

  found_at : (front : List X) (x : X) (rest : List X) → list_any p front ≡ false → p x ≡ true → position p (front ++ x ∷ rest) ≡ Some (length front)
  found_at front x rest none here =
      let all : ℕ = length (front ++ x ∷ rest) in
      let below : length front < length (front ++ x ∷ rest) = omega (arith, length-append front (x ∷ rest)) in
      ap (λ (n : ℕ). cond (nat_lt n all) (Some n) None) (first_at front x rest none here)
      ∙ ap (λ (b : Bool). cond b (Some (length front)) None) (lt-ltb (length front) all below)

any_named : (name : List ℕ) (front : List Source) → list_any (λ unit. same_bytes name unit.name) (map uses_in front) ≡ list_any (same_bytes name) (names front)
any_named name [] = refl
any_named name (s ∷ front) = ap (λ (b : Bool). same_bytes name s.name || b) (any_named name front)

-- a source whose name none before it has
pub place_is : (front : List Source) (s : Source) (rest : List Source) → list_any (same_bytes s.name) (names front) ≡ false → place_of (all_uses (front ++ s ∷ rest)) s.name ≡ Some (length front)
place_is front s rest new =
    let here = found_at (λ (unit : UsesOf). same_bytes s.name unit.name) (map uses_in front) (uses_in s) (map uses_in rest) (any_named s.name front ∙ new) (same_is s.name) in
    let all : all_uses (front ++ s ∷ rest) ≡ map uses_in front ++ uses_in s ∷ map uses_in rest = map-append uses_in front (s ∷ rest) in
    subst (λ (units : List UsesOf). place_of units s.name ≡ Some (length front)) (sym all) (here ∙ ap (λ (n : ℕ). Some n) (length-map front uses_in))

-- ---- what a source uses

module _ (units : List UsesOf) where
  -- where it is one of the units, its place is among these
  abbrev pub IsAmong : List ℕ → Wanted → Type 0
  IsAmong places unit = (place : ℕ) → place_of units unit.name ≡ Some place → list_any (nat_eq place) places ≡ true

  places_join : (xs ys : List (List ℕ)) → places_of units (xs ++ ys) ≡ places_of units xs ++ places_of units ys
  places_join [] ys = refl
  places_join (x ∷ xs) ys =
      ap (λ (places : List ℕ). listed (place_of units x) ++ places) (places_join xs ys)
      ∙ sym (append_assoc (listed (place_of units x)) (places_of units xs) (places_of units ys))

  is_listed : (found : Option ℕ) (place : ℕ) → found ≡ Some place → list_any (nat_eq place) (listed found) ≡ true
  is_listed found place is = rw is (or_first (nat_eq place place) false (nat_same place))

  all_among : (uses : List Identifier) → All (IsAmong (places_of units (names_of uses))) (map wanted_at uses)
  all_among [] = All-nil _
  all_among (u ∷ uses) =
      let rest = places_of units (names_of uses) in
      let here : List ℕ = listed (place_of units u.name) in
      let first : IsAmong (here ++ rest) (wanted_at u) = λ place is. list_any-append (nat_eq place) here rest ∙ or_first (list_any (nat_eq place) here) (list_any (nat_eq place) rest) (is_listed (place_of units u.name) place is) in
      let others : All (IsAmong (here ++ rest)) (map wanted_at uses) = All-weaker (IsAmong rest) (IsAmong (here ++ rest)) (λ unit among place is. list_any-append (nat_eq place) here rest ∙ or_second (list_any (nat_eq place) here) (list_any (nat_eq place) rest) (among place is)) (map wanted_at uses) (all_among uses) in
      All-cons (IsAmong (here ++ rest)) (wanted_at u) (map wanted_at uses) first others

  abbrev edges_by : UsesOf → List ℕ
  edges_by unit = places_of units unit.interface ++ places_of units unit.implementation

  both_parts : (n : ℕ) (uses : List Identifier) → places_of units (names_of (take n uses)) ++ places_of units (names_of (drop n uses)) ≡ places_of units (names_of uses)
  both_parts n uses =
      sym (places_join (names_of (take n uses)) (names_of (drop n uses)))
      ∙ ap (places_of units) (sym (map-append (λ (unit : Identifier). unit.name) (take n uses) (drop n uses)) ∙ ap names_of (take-append-drop n uses))

  pub used_among : (s : Source) → All (IsAmong (edges_by (uses_in s))) (wanted_by s)
  used_among s =
      let both = both_parts (used_in_interface s.tree) (used s.tree) in
      subst (λ (places : List ℕ). All (IsAmong places) (wanted_by s)) (sym both) (all_among (used s.tree))

  at_seam : (front : List Source) (s : Source) (rest : List Source) → get_or (map edges_by (map uses_in (front ++ s ∷ rest))) (length front) [] ≡ edges_by (uses_in s)
  at_seam [] s rest = refl
  at_seam (x ∷ front) s rest = at_seam front s rest

-- the units that the source at the place uses
pub next_at : (front : List Source) (s : Source) (rest : List Source) → All (IsAmong (all_uses (front ++ s ∷ rest)) (next (all_edges (all_uses (front ++ s ∷ rest))) (length front))) (wanted_by s)
next_at front s rest =
    let units = all_uses (front ++ s ∷ rest) in
    subst (λ (places : List ℕ). All (IsAmong units places) (wanted_by s)) (sym (at_seam units front s rest)) (used_among units s)
