-- What stands in the table that is kept of a unit's table.
use Rattle.std.proofs.Common.{◌≡◌, ◌∙◌, ℕ, zero, suc, ◌+◌, ◌<◌, ◌≤◌, Bool, true, false, cond, List, [], ◌∷◌, ◌++◌, length, Some, None, refl, arith, sym, ap, subst, inl, inr, length-append}
use Rattle.std.specs.Prelude.{slice_get, position}
use Rattle.std.proofs.lemmas.Option.{slice_get_within}
use Rattle.tables_closed.specs.type_layout.declared.definitions.TypeId.{TypeId}
use Rattle.tables_closed.specs.type_layout.declared.definitions.Origin.{Origin}
use Rattle.tables_closed.specs.type_layout.declared.definitions.TypeDef.{TypeDef}
use Rattle.tables_closed.specs.type_layout.Table.{Table, place_of, with_type}
use Rattle.tables_closed.proofs.type_layout_proofs.Local.{slice_get-append}
use Rattle.tables_closed.specs.unit_interface.declared.keys.Key.{Key}
use Rattle.tables_closed.specs.unit_interface.Merge.{same_key, key_of, keys_of, renumbered}
use Rattle.tables_closed.specs.unit_interface.Exports.{is_in, kept_before, with_kept, kept}
use Rattle.tables_closed.specs.unit_interface.Keyed.{IsKeyed}
use Rattle.tables_closed.proofs.unit_interface_proofs.KeyLaws.{count_of, key_at, key_place, keys_with, keyed_with}
use Rattle.tables_closed.proofs.unit_interface_proofs.KeptLaws.{below_or_last, slice_get-seam}
use Rattle.imported_types_agree.proofs.well_scoped.Merging.{has}
use Rattle.imported_types_agree.proofs.consistent_types.Keys.{not_found}
use Rattle.imported_types_agree.proofs.consistent_types.Known.{type_there}
use Rattle.imported_types_agree.proofs.consistent_types.Arrived.{some_is}

-- ---- by induction over the types of the unit

-- a table with a type of the unit's table
abbrev pub with_own : List TypeId → List (List ℕ) → Table → TypeDef → Origin → Table
with_own ids units t one origin = with_type t (key_of units origin).unit origin.number (renumbered ids (place_of t.units (key_of units origin).unit) one)

pub kept_by : (own : Table) (reached : List ℕ) (ids : List TypeId) (P : ℕ → Table → Type 0) → length own.origins ≡ length own.types → P 0 (record { types = []; origins = []; units = [] })
    → ((number : ℕ) (t : Table) (one : TypeDef) (origin : Origin) → is_in reached number ≡ true → slice_get own.types number ≡ Some one → slice_get own.origins number ≡ Some origin
    → P number t → P (suc number) (with_own ids own.units t one origin))
    → ((number : ℕ) (t : Table) → is_in reached number ≡ false → P number t → P (suc number) t)
    → (number : ℕ) → number ≤ length own.types → P number (kept own reached ids number)
kept_by own reached ids P paired none more past zero low = none
kept_by own reached ids P paired none more past (suc number) low =
    by (is_in reached number) refl (kept_by own reached ids P paired none more past number (omega (arith, low)))
  where
    by : (b : Bool) → is_in reached number ≡ b → P number (kept own reached ids number)
        → P (suc number) (cond b (with_kept own ids (kept own reached ids number) number) (kept own reached ids number))
    by false out h = past number (kept own reached ids number) out h
    by true met h =
        let t = kept own reached ids number in
        let one = has own.types number (omega (arith, low)) in
        let origin = has own.origins number (omega (arith, low, paired)) in
        let is : with_kept own ids t number ≡ with_own ids own.units t one.one origin.one = rw (one.at, origin.at) refl in
        subst (P (suc number)) (sym is) (more number t one.one origin.one met one.at origin.at h)

pub next_kept : (reached : List ℕ) (number : ℕ) → is_in reached number ≡ true → kept_before reached (suc number) ≡ kept_before reached number + 1
next_kept reached number met = ap (λ (b : Bool). kept_before reached number + cond b 1 0) met

pub past_kept : (reached : List ℕ) (number : ℕ) → is_in reached number ≡ false → kept_before reached (suc number) ≡ kept_before reached number + 0
past_kept reached number out = ap (λ (b : Bool). kept_before reached number + cond b 1 0) out

-- ---- keys and types

module _ (own : Table) (reached : List ℕ) (ids : List TypeId) (own_keyed : IsKeyed own) where
  -- a type of the unit's table that stands at this place
  pub record IsKeptFrom (count place : ℕ) (key : Key) (one : TypeDef) : Type 0 where
    pub number : ℕ
    pub low : number < count
    pub met : is_in reached number ≡ true
    pub key_at : slice_get (keys_of own) number ≡ Some key
    pub was : TypeDef
    pub stands : slice_get own.types number ≡ Some was
    pub unit : ℕ
    pub is : one ≡ renumbered ids unit was
    pub spot : place ≡ kept_before reached number

  pub record IsKeptTo (count : ℕ) (t : Table) : Type 0 where
    pub keyed : IsKeyed t
    pub counted : length t.types ≡ kept_before reached count
    pub there : (number : ℕ) (key : Key) → number < count → is_in reached number ≡ true → slice_get (keys_of own) number ≡ Some key
        → slice_get (keys_of t) (kept_before reached number) ≡ Some key
    pub from : (place : ℕ) (key : Key) (one : TypeDef) → slice_get (keys_of t) place ≡ Some key → slice_get t.types place ≡ Some one → IsKeptFrom count place key one

  longer : (count place : ℕ) (key : Key) (one : TypeDef) → IsKeptFrom count place key one → IsKeptFrom (suc count) place key one
  longer count place key one h = record {
    number = h.number;
    low = omega (arith, h.low);
    met = h.met;
    key_at = h.key_at;
    was = h.was;
    stands = h.stands;
    unit = h.unit;
    is = h.is;
    spot = h.spot;
  }

  -- the key is new: it stands once in the unit's table
  new_key : (number : ℕ) (t : Table) (key : Key) → slice_get (keys_of own) number ≡ Some key → IsKeptTo number t → position (same_key key) (keys_of t) ≡ None
  new_key number t key at h =
      not_found (keys_of t) key (λ place there.
      let one = type_there t place key h.keyed.paired there in
      let f = h.from place key one.0 there one.1 in
      let same : f.number ≡ number = own_keyed.apart f.number number key f.key_at at in
      omega (arith, f.low, same))

  more : (number : ℕ) (t : Table) (one : TypeDef) (origin : Origin) → is_in reached number ≡ true → slice_get own.types number ≡ Some one → slice_get own.origins number ≡ Some origin
      → IsKeptTo number t → IsKeptTo (suc number) (with_own ids own.units t one origin)
  more number t one origin met stands from h =
      let key : Key = key_of own.units origin in
      let at : slice_get (keys_of own) number ≡ Some key = key_at own number origin from in
      let unit : ℕ = place_of t.units key.unit in
      let made : TypeDef = renumbered ids unit one in
      let keys : keys_of (with_own ids own.units t one origin) ≡ keys_of t ++ key ∷ [] = keys_with t key.unit origin.number made h.keyed.known in
      let many : length (keys_of t) ≡ length t.types = count_of t h.keyed in
      let next = next_kept reached number met in
      record {
        keyed = keyed_with t key.unit origin.number made h.keyed (new_key number t key at h);
        counted = omega (arith, h.counted, next, length-append t.types (made ∷ []));
        there = λ n other low met_n e. ap (λ (ks : List Key). slice_get ks (kept_before reached n)) keys ∙ (elim (below_or_last n number low) [
          | inl before ↦
              let old = h.there n other before met_n e in
              slice_get-append (keys_of t) (key ∷ []) (kept_before reached n) (slice_get_within (keys_of t) (kept_before reached n) other old) ∙ old
          | inr last ↦
              let spot : length (keys_of t) ≡ kept_before reached n = many ∙ h.counted ∙ ap (kept_before reached) (sym last) in
              let same : Some key ≡ Some other = sym at ∙ ap (slice_get (keys_of own)) (sym last) ∙ e in
              ap (slice_get (keys_of t ++ key ∷ [])) (sym spot) ∙ slice_get-seam (keys_of t) key ∙ same
        ]);
        from = λ place other x e f. elim (key_place (keys_of t) key place other (ap (λ (ks : List Key). slice_get ks place) (sym keys) ∙ e)) [
          | inl old ↦
              let low : place < length t.types = omega (arith, slice_get_within (keys_of t) place other old, many) in
              longer number place other x (h.from place other x old (sym (slice_get-append t.types (made ∷ []) place low) ∙ f))
          | inr last ↦
              let spot : place ≡ length t.types = last.0 ∙ many in
              record {
                number = number;
                low = omega arith;
                met = met;
                key_at = at ∙ ap (λ (k : Key). Some k) last.1;
                was = one;
                stands = stands;
                unit = unit;
                is = some_is x made (sym f ∙ ap (slice_get (t.types ++ made ∷ [])) spot ∙ slice_get-seam t.types made);
                spot = spot ∙ h.counted;
              }
        ];
      }

  past : (number : ℕ) (t : Table) → is_in reached number ≡ false → IsKeptTo number t → IsKeptTo (suc number) t
  past number t out h = record {
    keyed = h.keyed;
    counted = (let none = past_kept reached number out in omega (arith, h.counted, none));
    there = λ n other low met e. elim (below_or_last n number low) [
      | inl before ↦ h.there n other before met e
      | inr last ↦ (let here : is_in reached number ≡ true = ap (is_in reached) (sym last) ∙ met in absurd (cc))
    ];
    from = λ place other x e f. longer number place other x (h.from place other x e f);
  }

  none_kept : IsKeptTo 0 (record { types = []; origins = []; units = [] })
  none_kept = record {
    keyed = record { paired = refl; known = λ k d low. absurd (omega (arith, low)); apart = λ one other key at there. absurd (nothing one key at) };
    counted = refl;
    there = λ n other low met e. absurd (omega (arith, low));
    from = λ place other x e f. absurd (nothing place other e);
  }
    where
      nothing : (place : ℕ) (key : Key) → slice_get (let ks : List Key = [] in ks) place ≡ Some key → ⊥
      nothing zero key e = cc
      nothing (suc place) key e = cc

  pub kept_to : IsKeptTo (length own.types) (kept own reached ids (length own.types))
  kept_to = kept_by own reached ids IsKeptTo own_keyed.paired none_kept more past (length own.types) (omega arith)
