-- What stands in a table with the types of another one.
use Rattle.std.proofs.Common.{◌≡◌, ◌∙◌, ℕ, zero, suc, ◌<◌, ◌≤◌, Bool, true, false, not, nat_lt, List, [], ◌∷◌, ◌++◌, length, take, Some, get_or, refl, arith, sym, ap, subst, ◌⊎◌, inl, inr}
use Rattle.std.specs.Prelude.{slice_get}
use Rattle.std.proofs.lemmas.List.{take_all}
use Rattle.std.proofs.lemmas.Option.{slice_get_within}
use Rattle.tables_closed.specs.type_layout.declared.definitions.TypeId.{TypeId}
use Rattle.tables_closed.specs.type_layout.declared.definitions.TypeDef.{TypeDef}
use Rattle.tables_closed.specs.type_layout.Table.{Table, place_of, with_type}
use Rattle.tables_closed.proofs.type_layout_proofs.Local.{slice_get-append}
use Rattle.tables_closed.specs.unit_interface.declared.keys.Key.{Key}
use Rattle.tables_closed.specs.unit_interface.declared.interfaces.Interface.{Interface}
use Rattle.tables_closed.specs.unit_interface.Merge.{key_of, keys_of, place_of_key, ids_in, renumbered, is_new, merged, with_types}
use Rattle.tables_closed.specs.unit_interface.Keyed.{IsKeyed}
use Rattle.tables_closed.proofs.unit_interface_proofs.KeyLaws.{AreApart, known_after, count_of, key_at, key_place, keys_with, id-at, merged_so}
use Rattle.tables_closed.proofs.unit_interface_proofs.KeptLaws.{slice_get-seam}
use Rattle.tables_closed.proofs.unit_interface_proofs.MergeLaws.{merged-new, merged-old}
use Rattle.imported_types_agree.proofs.well_scoped.Merging.{Has, has}
use Rattle.imported_types_agree.specs.consistent_types.Consistency.{AreAtHome}
use Rattle.imported_types_agree.proofs.consistent_types.Keys.{place_at, after_prefix, after_from, At, id_lands}

past_of : (a b : ℕ) → not (nat_lt a b) ≡ true → b ≤ a
past_of a b e = grind arith

pub some_is : (a b : TypeDef) → Some a ≡ Some b → a ≡ b
some_is a b e = cc

module _ (table other : Table) (keyed : IsKeyed table) (own : IsKeyed other) where
  abbrev pub both : Table
  both = with_types table other

  pub merged_keyed : IsKeyed both
  merged_keyed = (merged_so table other keyed (length other.types) (omega arith)).keyed

  pub merged_keys : keys_of both ≡ known_after (keys_of table) (keys_of other)
  merged_keys =
      (merged_so table other keyed (length other.types) (omega arith)).keys
      ∙ ap (known_after (keys_of table)) (take_all (length other.types) (keys_of other) (omega (arith, count_of other own)))

  -- a key of the table stays at its place
  pub key_stays : (place : ℕ) (key : Key) → slice_get (keys_of table) place ≡ Some key → slice_get (keys_of both) place ≡ Some key
  key_stays place key at =
      ap (λ (ks : List Key). slice_get ks place) merged_keys ∙ after_prefix (keys_of table) (keys_of other) place key at

  -- one of the other table stands at its id
  pub key_lands : (number : ℕ) (key : Key) (d : TypeId) → slice_get (keys_of other) number ≡ Some key
      → slice_get (keys_of both) (get_or (ids_in table other) number d).0 ≡ Some key
  key_lands number key d at =
      ap (λ (ks : List Key). slice_get ks (get_or (ids_in table other) number d).0) merged_keys ∙ id_lands (keys_of table) (keys_of other) number key d at

  -- and no further one is there
  pub key_from : (place : ℕ) (key : Key) → slice_get (keys_of both) place ≡ Some key → (slice_get (keys_of table) place ≡ Some key) ⊎ At (keys_of other) key
  key_from place key at =
      after_from (keys_of table) (keys_of other) place key (ap (λ (ks : List Key). slice_get ks place) (sym merged_keys) ∙ at)

  pub merged_home : (have : List Interface) → AreAtHome have table → AreAtHome have other → AreAtHome have both
  merged_home have h k number key at =
      elim (key_from number key at) [
        | inl before ↦ h number key before
        | inr more ↦ k more.place key more.at
      ]

  -- ---- types

  -- a type that came of the other table: its key is new
  pub record IsArrived (key : Key) (one : TypeDef) : Type 0 where
    pub number : ℕ
    pub key_at : slice_get (keys_of other) number ≡ Some key
    pub was : TypeDef
    pub stands : slice_get other.types number ≡ Some was
    pub unit : ℕ
    pub is : one ≡ renumbered (ids_in table other) unit was
    pub fresh : (place : ℕ) → slice_get (keys_of table) place ≡ Some key → ⊥

  -- the types of the table stay at their places, and the others arrived
  pub record IsMergedTo (now : Table) : Type 0 where
    pub front : (place : ℕ) (one : TypeDef) → slice_get table.types place ≡ Some one → slice_get now.types place ≡ Some one
    pub each : (place : ℕ) (key : Key) (one : TypeDef) → slice_get (keys_of now) place ≡ Some key → slice_get now.types place ≡ Some one
        → ((slice_get (keys_of table) place ≡ Some key) × (slice_get table.types place ≡ Some one)) ⊎ IsArrived key one

  -- so many types of the other table came
  abbrev now : ℕ → Table
  now number = merged other (ids_in table other) table number

  fresh_key : (number : ℕ) (key : Key) → is_new (ids_in table other) (now number) number ≡ true → slice_get (keys_of other) number ≡ Some key → number < length other.types
      → (place : ℕ) → slice_get (keys_of table) place ≡ Some key → ⊥
  fresh_key number key new at low place there =
      let so = merged_so table other keyed number (omega (arith, low)) in
      let known : List Key = known_after (keys_of table) (take number (keys_of other)) in
      let self : TypeId = record { 0 = number } in
      let id : (get_or (ids_in table other) number self).0 ≡ place_of_key known key = id-at (keys_of table) (keys_of other) number key self at in
      let in_known : slice_get known place ≡ Some key = after_prefix (keys_of table) (take number (keys_of other)) place key there in
      let apart : AreApart known = subst AreApart so.keys so.keyed.apart in
      let same : place_of_key known key ≡ place = place_at known key place apart in_known in
      let within : place < length known = slice_get_within known place key in_known in
      let long : length known ≡ length (now number).types = sym (ap (λ (ks : List Key). length ks) so.keys) ∙ count_of (now number) so.keyed in
      let past : length (now number).types ≤ (get_or (ids_in table other) number self).0 = past_of (get_or (ids_in table other) number self).0 (length (now number).types) new in
      omega (arith, id, same, within, long, past)

  with_new : (before : Table) (name : List ℕ) (count unit number : ℕ) (was : TypeDef) → IsKeyed before → IsMergedTo before
      → slice_get (keys_of other) number ≡ Some (record { unit = name; number = count }) → slice_get other.types number ≡ Some was
      → ((place : ℕ) → slice_get (keys_of table) place ≡ Some (record { unit = name; number = count }) → ⊥)
      → IsMergedTo (with_type before name count (renumbered (ids_in table other) unit was))
  with_new before name count unit number was k h at stands fresh =
      let key : Key = record { unit = name; number = count } in
      let one : TypeDef = renumbered (ids_in table other) unit was in
      let keys : keys_of (with_type before name count one) ≡ keys_of before ++ key ∷ [] = keys_with before name count one k.known in
      record {
        front = λ place x e. slice_get-append before.types (one ∷ []) place (slice_get_within before.types place x (h.front place x e)) ∙ h.front place x e;
        each = λ place another x e f. elim (key_place (keys_of before) key place another (ap (λ (ks : List Key). slice_get ks place) (sym keys) ∙ e)) [
          | inl there ↦
              let low : place < length before.types = omega (arith, slice_get_within (keys_of before) place another there, count_of before k) in
              h.each place another x there (sym (slice_get-append before.types (one ∷ []) place low) ∙ f)
          | inr last ↦
              let spot : place ≡ length before.types = last.0 ∙ count_of before k in
              let same : key ≡ another = last.1 in
              let is : one ≡ x = some_is one x (sym (slice_get-seam before.types one) ∙ ap (slice_get (before.types ++ one ∷ [])) (sym spot) ∙ f) in
              inr (record {
                number = number;
                key_at = at ∙ ap (λ (z : Key). Some z) same;
                was = was;
                stands = stands;
                unit = unit;
                is = sym is;
                fresh = λ p there. fresh p (there ∙ ap (λ (z : Key). Some z) (sym same));
              })
        ];
      }

  arrive : (number : ℕ) → number < length other.types → IsMergedTo (now number) → IsMergedTo (now (suc number))
  arrive number low h = by (is_new (ids_in table other) (now number) number) refl
    where
      one : Has other.types number
      one = has other.types number low

      origin : Has other.origins number
      origin = has other.origins number (omega (arith, low, own.paired))

      by : (b : Bool) → is_new (ids_in table other) (now number) number ≡ b → IsMergedTo (now (suc number))
      by false old = subst IsMergedTo (sym (merged-old other (now number) (ids_in table other) number old)) h
      by true new =
          let key : Key = key_of other.units origin.one in
          let at : slice_get (keys_of other) number ≡ Some key = key_at other number origin.one origin.at in
          let next = merged-new other (now number) (ids_in table other) number one.one origin.one key.unit one.at origin.at refl new in
          subst IsMergedTo (sym next)
          (with_new (now number) key.unit origin.one.number (place_of (now number).units key.unit) number one.one
          (merged_so table other keyed number (omega (arith, low))).keyed h at one.at (fresh_key number key new at low))

  pub arrived : (number : ℕ) → number ≤ length other.types → IsMergedTo (now number)
  arrived zero low = record { front = λ place one e. e; each = λ place key one e f. inl (e, f) }
  arrived (suc number) low = arrive number (omega (arith, low)) (arrived number (omega (arith, low)))

  pub all_arrived : IsMergedTo both
  all_arrived = arrived (length other.types) (omega arith)
