-- The types of another table stand in a table that they came into, where those that it knew are the same.
use Rattle.std.proofs.Common.{◌≡◌, ◌∙◌, inl, inr, ℕ, zero, suc, ◌+◌, ◌<◌, ◌≤◌, Bool, true, false, not, cond, nat_lt, List, [], ◌∷◌, ◌++◌, length, get_or, Option, Some, None, refl, sym, ap, arith, length-append}
use Rattle.std.specs.Prelude.{slice_get}
use Rattle.std.proofs.lemmas.List.{length-map}
use Rattle.std.proofs.lemmas.Option.{slice_get_within}
use Rattle.bodies_well_formed.specs.type_layout.declared.definitions.TypeId.{TypeId}
use Rattle.bodies_well_formed.specs.type_layout.declared.definitions.TypeDef.{TypeDef}
use Rattle.bodies_well_formed.specs.type_layout.declared.definitions.Origin.{Origin}
use Rattle.bodies_well_formed.specs.type_layout.Table.{Table, with_type}
use Rattle.imported_types_agree.specs.unit_interface.Merge.{key_of, keys_of, with_key, ids_of, ids_in, renumbered, with_listed, is_new, with_merged, with_types}
use Rattle.declarations_well_formed.specs.exported_constants.Agreed.{IsThere, IsKnownAlike}
use Rattle.imported_types_agree.proofs.well_scoped.Merging.{with_first, IsMet, met}
use Rattle.declarations_well_formed.proofs.exported_constants.Kept.{get_front, get_last, below_or_last}

-- ---- ids

same_or : {A : Type 0} → (xs : List A) (k : ℕ) (d e : A) → k < length xs → get_or xs k d ≡ get_or xs k e
same_or [] k d e low = absurd (omega arith)
same_or (x ∷ xs) zero d e low = refl
same_or (x ∷ xs) (suc k) d e low = same_or xs k d e (omega arith)

length-ids : (known keys : _) → length (ids_of known keys) ≡ length keys
length-ids known [] = refl
length-ids known (key ∷ keys) = ap suc (length-ids (with_key known key) keys)

-- ---- what is there stays

listed_front : (ids : List TypeId) (t : Table) (units : List (List ℕ)) (one : Option TypeDef) (origin : Option Origin) (k : ℕ) (x : TypeDef) → slice_get t.types k ≡ Some x → slice_get (with_listed ids t units one origin).types k ≡ Some x
listed_front ids t units (Some one) (Some origin) k x at = get_front t.types _ k x at
listed_front ids t units (Some one) None k x at = at
listed_front ids t units None origin k x at = at

cond_front : (b : Bool) (one two : Table) (k : ℕ) (x : TypeDef) → slice_get one.types k ≡ Some x → slice_get two.types k ≡ Some x → slice_get (cond b one two).types k ≡ Some x
cond_front true one two k x h i = h
cond_front false one two k x h i = i

merged_front : (other : Table) (ids : List TypeId) (t : Table) (number k : ℕ) (x : TypeDef) → slice_get t.types k ≡ Some x → slice_get (with_merged other ids t number).types k ≡ Some x
merged_front other ids t number k x at =
    cond_front (is_new ids t number) (with_listed ids t other.units (slice_get other.types number) (slice_get other.origins number)) t k x
    (listed_front ids t other.units (slice_get other.types number) (slice_get other.origins number) k x at) at

module _ (table other : Table) where
  front : (last number k : ℕ) (x : TypeDef) → number ≤ last → slice_get (with_first table other number).types k ≡ Some x → slice_get (with_first table other last).types k ≡ Some x
  front zero number k x low at =
      let e : number ≡ 0 = omega arith in
      ap (λ (n : ℕ). slice_get (with_first table other n).types k) (sym e) ∙ at
  front (suc last) number k x low at =
      elim (below_or_last number (suc last) (omega arith)) [
        | inl less ↦ merged_front other (ids_in table other) (with_first table other last) last k x (front last number k x (omega arith) at)
        | inr same ↦ ap (λ (n : ℕ). slice_get (with_first table other n).types k) (sym same) ∙ at
      ]

  to_end : (number : ℕ) (k : ℕ) (x : TypeDef) → number ≤ length other.types → slice_get (with_first table other number).types k ≡ Some x → slice_get (with_types table other).types k ≡ Some x
  to_end number k x low at = front (length other.types) number k x low at

  module _ (paired : length table.origins ≡ length table.types) (level : length other.origins ≡ length other.types) (alike : IsKnownAlike table other) where
    -- a type of the other table has its id in the table, and is the same there
    pub met_at : (number : ℕ) (one : TypeDef) (d : TypeId) → slice_get other.types number ≡ Some one → IsThere (ids_in table other) (with_types table other).types (get_or (ids_in table other) number d) one
    met_at number one d at = by (is_new (ids_in table other) (with_first table other number) number) refl
      where
        low : number < length other.types
        low = slice_get_within other.types number one at

        m : IsMet table other paired level number one
        m = met table other paired level number one at low

        self : TypeId
        self = record { 0 = number }

        by : (b : Bool) → is_new (ids_in table other) (with_first table other number) number ≡ b → IsThere (ids_in table other) (with_types table other).types (get_or (ids_in table other) number d) one
        by false known =
            let h = alike number one d at known in
            record { unit = h.unit; at = to_end number (get_or (ids_in table other) number d).0 (renumbered (ids_in table other) h.unit one) (omega (arith, low)) h.at }
        by true new =
            let before = with_first table other number in
            let made = renumbered (ids_in table other) m.place one in
            let added = with_type before m.unit m.count made in
            let is : with_first table other (suc number) ≡ added = m.is ∙ ap (λ (b : Bool). cond b added before) new in
            let below : (get_or (ids_in table other) number d).0 < length (with_first table other (suc number)).types = m.id d in
            let size : length (with_first table other (suc number)).types ≡ length before.types + 1 = ap (λ (t : Table). length t.types) is ∙ length-append before.types (made ∷ []) in
            let past : length before.types ≤ (get_or (ids_in table other) number self).0 = past_of (get_or (ids_in table other) number self).0 (length before.types) new in
            let all : length (ids_in table other) ≡ length other.origins = length-ids (keys_of table) (keys_of other) ∙ length-map other.origins (key_of other.units) in
            let same : (get_or (ids_in table other) number d).0 ≡ (get_or (ids_in table other) number self).0 = ap (λ (x : TypeId). x.0) (same_or (ids_in table other) number d self (omega (arith, low, all, level))) in
            let spot : length before.types ≡ (get_or (ids_in table other) number d).0 = omega arith in
            let here : slice_get (with_first table other (suc number)).types (get_or (ids_in table other) number d).0 ≡ Some made =
            ap (λ (t : Table). slice_get t.types (get_or (ids_in table other) number d).0) is
            ∙ ap (slice_get (before.types ++ made ∷ [])) (sym spot) ∙ get_last before.types made in
            record { unit = m.place; at = to_end (suc number) (get_or (ids_in table other) number d).0 made (omega (arith, low)) here }
          where
            past_of : (a b : ℕ) → not (nat_lt a b) ≡ true → b ≤ a
            past_of a b e = grind arith
