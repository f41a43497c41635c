-- The routine of a method, where names of units come behind.
use Rattle.std.proofs.Common.{◌≡◌, ℕ, ◌<◌, Bool, true, false, cond, List, [], ◌++◌, length, get_or, Option, Some, None, refl, ap, ◌∙◌, arith, length-append}
use Rattle.std.specs.Prelude.{option_map, slice_get, nat_lt, position}
use Rattle.std.specs.List.{position_or_len}
use Rattle.std.proofs.lemmas.Bool.{lt-ltb}
use Rattle.std.proofs.lemmas.Option.{slice_get_within}
use Rattle.std.proofs.lemmas.List.{get_or_append_left}
use Rattle.std.proofs.lemmas.List.Sums.{position_or_len_is}
use Rattle.std.proofs.lemmas.List.Quantifiers.{position-Some}
use Rattle.tp_check_stmt.specs.type_layout.declared.definitions.RoutineId.{RoutineId}
use Rattle.tp_check_stmt.specs.type_layout.Words.{same_bytes}
use Rattle.tp_check_stmt.proofs.type_layout_proofs.Local.{slice_get-append}
use Rattle.tp_check_stmt.specs.scopes.Members.{narrow}
use Rattle.tp_check_stmt.specs.scopes.Environment.{Environment}
use Rattle.tp_check_stmt.specs.call_rules.method_rules.Methods.{unit_at, routine_of, routine_in}

-- ---- the first place

module _ {X : Type 0} (p : X → Bool) where
  pub place_stays : (xs ys : List X) (d : X) (place : ℕ) → position p xs ≡ Some place → position p (xs ++ ys) ≡ Some place
  place_stays xs ys d place e =
      let it = position-Some p xs place d e in
      let within : place < length xs = it.0 in
      let long = length-append xs ys in
      let below : place < length (xs ++ ys) = omega (arith, within, long) in
      let misses : (k : ℕ) → k < place → p (get_or (xs ++ ys) k d) ≡ false =
      λ k low. (let early : k < length xs = omega (arith, low, within) in ap p (get_or_append_left xs ys d k early) ∙ it.2 k low) in
      let hits : p (get_or (xs ++ ys) place d) ≡ true = ap p (get_or_append_left xs ys d place within) ∙ it.1 in
      let first : position_or_len p (xs ++ ys) ≡ place = position_or_len_is p (xs ++ ys) place d (omega (arith, below)) misses (λ _. hits) in
      ap (λ (n : ℕ). cond (nat_lt n (length (xs ++ ys))) (Some n) None) first
      ∙ ap (λ (b : Bool). cond b (Some place) None) (lt-ltb place (length (xs ++ ys)) below)

-- ---- names of units

unit_stays : (units back : List (List ℕ)) (name : List ℕ) (place : ℕ) → unit_at units (Some name) ≡ Some place → unit_at (units ++ back) (Some name) ≡ Some place
unit_stays units back name place e = by (position (same_bytes name) units) (λ n k. place_stays (same_bytes name) units back [] n k) e
  where
    by : (o : Option ℕ) → ((n : ℕ) → o ≡ Some n → position (same_bytes name) (units ++ back) ≡ Some n) → option_map narrow o ≡ Some place
        → option_map narrow (position (same_bytes name) (units ++ back)) ≡ Some place
    by None stays k = let bad : ⊥ = cc in absurd bad
    by (Some n) stays k = ap (λ (o : Option ℕ). option_map narrow o) (stays n refl) ∙ k

module _ (g h : Environment) (back more : List (List ℕ)) (units : h.units ≡ g.units ++ back) (table : h.types.units ≡ g.types.units ++ more) where
  pub routine_stays : (routine is : RoutineId) → routine_in g routine ≡ Some is → routine_in h routine ≡ Some is
  routine_stays routine is e = by (slice_get g.types.units routine.unit) (λ name k. named name k) e
    where
      named : (name : List ℕ) → slice_get g.types.units routine.unit ≡ Some name → slice_get h.types.units routine.unit ≡ Some name
      named name k =
          ap (λ (l : List (List ℕ)). slice_get l routine.unit) table
          ∙ slice_get-append g.types.units more routine.unit (slice_get_within g.types.units routine.unit name k)
          ∙ k

      placed : (name : List ℕ) (o : Option ℕ) → ((place : ℕ) → o ≡ Some place → unit_at h.units (Some name) ≡ Some place) → option_map (routine_of routine.number) o ≡ Some is
          → option_map (routine_of routine.number) (unit_at h.units (Some name)) ≡ Some is
      placed name None stays k = let bad : ⊥ = cc in absurd bad
      placed name (Some place) stays k = ap (λ (o : Option ℕ). option_map (routine_of routine.number) o) (stays place refl) ∙ k

      by : (o : Option (List ℕ)) → ((name : List ℕ) → o ≡ Some name → slice_get h.types.units routine.unit ≡ Some name) → option_map (routine_of routine.number) (unit_at g.units o) ≡ Some is
          → option_map (routine_of routine.number) (unit_at h.units (slice_get h.types.units routine.unit)) ≡ Some is
      by None stays k = let bad : ⊥ = cc in absurd bad
      by (Some name) stays k =
          let there : slice_get h.types.units routine.unit ≡ Some name = stays name refl in
          ap (λ (o : Option (List ℕ)). option_map (routine_of routine.number) (unit_at h.units o)) there
          ∙ placed name (unit_at g.units (Some name))
          (λ place u. ap (λ (l : List (List ℕ)). unit_at l (Some name)) units ∙ unit_stays g.units back name place u) k
