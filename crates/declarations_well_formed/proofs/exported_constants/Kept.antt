-- The types that an interface keeps of a unit's table stand there under their new ids.
use Rattle.std.proofs.Common.{◌≡◌, ◌∙◌, ◌⊎◌, ℕ, zero, suc, ◌+◌, ◌<◌, ◌≤◌, Bool, true, false, cond, List, [], ◌∷◌, ◌++◌, length, get_or, Some, refl, sym, ap, subst, arith, inl, inr, length-append}
use Rattle.std.specs.Prelude.{slice_get}
use Rattle.std.proofs.Math.Seq.{get_or-append_seam}
use Rattle.std.proofs.Math.ListN.{get_or-append}
use Rattle.bodies_well_formed.specs.type_layout.declared.definitions.TypeId.{TypeId}
use Rattle.bodies_well_formed.specs.type_layout.declared.definitions.TypeDef.{TypeDef}
use Rattle.bodies_well_formed.specs.type_layout.declared.definitions.Origin.{Origin}
use Rattle.bodies_well_formed.specs.type_layout.Table.{Table, place_of, with_type}
use Rattle.bodies_well_formed.proofs.type_layout_proofs.Local.{slice_get-append}
use Rattle.std.proofs.lemmas.Option.{slice_get_within}
use Rattle.imported_types_agree.specs.unit_interface.Merge.{key_of, renumbered}
use Rattle.imported_types_agree.specs.unit_interface.Exports.{is_in, kept_before, new_ids, with_kept, kept}
use Rattle.declarations_well_formed.specs.exported_constants.Agreed.{IsThere}
use Rattle.imported_types_agree.proofs.well_scoped.Merging.{has}

pub get_front : {A : Type 0} → (xs ys : List A) (k : ℕ) (x : A) → slice_get xs k ≡ Some x → slice_get (xs ++ ys) k ≡ Some x
get_front xs ys k x e = slice_get-append xs ys k (slice_get_within xs k x e) ∙ e

pub get_last : {A : Type 0} → (xs : List A) (x : A) → slice_get (xs ++ x ∷ []) (length xs) ≡ Some x
get_last [] x = refl
get_last (y ∷ xs) x = get_last xs x

pub below_or_last : (k n : ℕ) → k < suc n → (k < n) ⊎ (k ≡ n)
below_or_last zero zero below = inr refl
below_or_last zero (suc n) below = inl (omega arith)
below_or_last (suc k) zero below = absurd (omega arith)
below_or_last (suc k) (suc n) below = by (below_or_last k n (omega arith))
  where
    by : (k < n) ⊎ (k ≡ n) → (suc k < suc n) ⊎ (suc k ≡ suc n)
    by (inl less) = inl (omega arith)
    by (inr same) = inr (omega arith)

-- ---- new ids

length-new_ids : (reached : List ℕ) (count : ℕ) → length (new_ids reached count) ≡ count
length-new_ids reached zero = refl
length-new_ids reached (suc count) =
    let rec = length-new_ids reached count in
    length-append (new_ids reached count) ((record { 0 = kept_before reached count }) ∷ []) ∙ omega arith

pub new_id_is : (reached : List ℕ) (count number : ℕ) (d : TypeId) → number < count → (get_or (new_ids reached count) number d).0 ≡ kept_before reached number
new_id_is reached zero number d below = absurd (omega arith)
new_id_is reached (suc count) number d below =
    let len = length-new_ids reached count in
    let last : TypeId = record { 0 = kept_before reached count } in
    elim (below_or_last number count below) [
      | inl before ↦
          ap (λ (id : TypeId). id.0) (get_or-append (new_ids reached count) (last ∷ []) d number (omega arith))
          ∙ new_id_is reached count number d before
      | inr same ↦
          let seam = get_or-append_seam (new_ids reached count) last [] d in
          let at : number ≡ length (new_ids reached count) = omega arith in
          ap (λ (k : ℕ). (get_or (new_ids reached count ++ last ∷ []) k d).0) at
          ∙ ap (λ (id : TypeId). id.0) seam ∙ ap (kept_before reached) (sym same)
    ]

-- ---- what is kept

abbrev id : ℕ → TypeId
id number = record { 0 = number }

module _ (own : Table) (reached : List ℕ) (ids : List TypeId) (paired : length own.origins ≡ length own.types) where
  record IsKept (number : ℕ) (t : Table) : Type 0 where
    count : length t.types ≡ kept_before reached number
    at : (k : ℕ) (one : TypeDef) → k < number → is_in reached k ≡ true → slice_get own.types k ≡ Some one → IsThere ids t.types (id (kept_before reached k)) one

  stays_at : (types : List TypeDef) (more : TypeDef) (k : ℕ) (one : TypeDef) → IsThere ids types (id k) one → IsThere ids (types ++ more ∷ []) (id k) one
  stays_at types more k one h = record { unit = h.unit; at = get_front types (more ∷ []) k (renumbered ids h.unit one) h.at }

  with_one : (number : ℕ) (t : Table) (one : TypeDef) (origin : Origin) → slice_get own.types number ≡ Some one → slice_get own.origins number ≡ Some origin → is_in reached number ≡ true
      → IsKept number t → IsKept (suc number) (with_type t (key_of own.units origin).unit origin.number (renumbered ids (place_of t.units (key_of own.units origin).unit) one))
  with_one number t one origin at from met h =
      let place = place_of t.units (key_of own.units origin).unit in
      let new = renumbered ids place one in
      let same : kept_before reached number + cond (is_in reached number) 1 0 ≡ kept_before reached number + 1 = ap (λ (b : Bool). kept_before reached number + cond b 1 0) met in
      record {
        count = omega (arith, h.count, same, length-append t.types (new ∷ []));
        at = λ k other below there is. elim (below_or_last k number below) [
          | inl before ↦ stays_at t.types new (kept_before reached k) other (h.at k other before there is)
          | inr last ↦
              let it : one ≡ other = some_is one other (sym at ∙ ap (slice_get own.types) (sym last) ∙ is) in
              let spot : length t.types ≡ kept_before reached k = h.count ∙ ap (kept_before reached) (sym last) in
              let held : slice_get (t.types ++ new ∷ []) (kept_before reached k) ≡ Some new = ap (slice_get (t.types ++ new ∷ [])) (sym spot) ∙ get_last t.types new in
              record { unit = place; at = held ∙ ap (λ (d : TypeDef). Some (renumbered ids place d)) it }
        ];
      }
    where
      some_is : (a b : TypeDef) → Some a ≡ Some b → a ≡ b
      some_is a b e = cc

  past_one : (number : ℕ) (t : Table) → is_in reached number ≡ false → IsKept number t → IsKept (suc number) t
  past_one number t out h =
      let none : kept_before reached number + cond (is_in reached number) 1 0 ≡ kept_before reached number + 0 = ap (λ (b : Bool). kept_before reached number + cond b 1 0) out in
      record {
        count = omega (arith, h.count, none);
        at = λ k other below there is. elim (below_or_last k number below) [
          | inl before ↦ h.at k other before there is
          | inr last ↦ let here : is_in reached number ≡ true = ap (is_in reached) (sym last) ∙ there in absurd (contrary (is_in reached number) out here)
        ];
      }
    where
      contrary : (b : Bool) → b ≡ false → b ≡ true → ⊥
      contrary b f g = cc

  kept_to : (number : ℕ) → number ≤ length own.types → IsKept number (kept own reached ids number)
  kept_to zero within = record { count = refl; at = λ k other below there is. absurd (omega arith) }
  kept_to (suc number) within = by (is_in reached number) refl (kept_to number (omega arith))
    where
      by : (b : Bool) → is_in reached number ≡ b → IsKept number (kept own reached ids number)
          → IsKept (suc number) (cond b (with_kept own ids (kept own reached ids number) number) (kept own reached ids number))
      by false out h = past_one number (kept own reached ids number) out h
      by true met h =
          let t = kept own reached ids number in
          let one = has own.types number (omega arith) in
          let origin = has own.origins number (omega arith) in
          let is : with_kept own ids t number ≡ with_type t (key_of own.units origin.one).unit origin.one.number (renumbered ids (place_of t.units (key_of own.units origin.one).unit) one.one) = rw (one.at, origin.at) refl in
          subst (λ (u : Table). IsKept (suc number) u) (sym is) (with_one number t one.one origin.one one.at origin.at met h)

  -- each type that is reached
  pub kept_at : (k : ℕ) (one : TypeDef) → is_in reached k ≡ true → slice_get own.types k ≡ Some one → IsThere ids (kept own reached ids (length own.types)).types (id (kept_before reached k)) one
  kept_at k one met is = (kept_to (length own.types) (omega arith)).at k one (slice_get_within own.types k one is) met is
