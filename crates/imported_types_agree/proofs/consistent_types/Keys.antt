-- Where keys stand in a list, and what ids come of them.
use Rattle.std.proofs.Common.{◌≡◌, ◌∙◌, ℕ, zero, suc, ◌<◌, Bool, true, false, ◌&&◌, cond, List, [], ◌∷◌, ◌++◌, length, take, Option, Some, None, get_or, refl, arith, sym, ap, subst, ◌⊎◌, inl, inr, nat_eq, eqb-true}
use Rattle.std.specs.Prelude.{slice_get, position, unwrap_or, is_some}
use Rattle.std.specs.Cmp.Lexicographic.{same_text}
use Rattle.std.proofs.lemmas.List.Quantifiers.{position-Some}
use Rattle.std.proofs.lemmas.Option.{slice_get-get_or}
use Rattle.tables_closed.specs.type_layout.declared.definitions.TypeId.{TypeId}
use Rattle.tables_closed.specs.type_layout.Words.{same_bytes}
use Rattle.tables_closed.specs.unit_interface.declared.keys.Key.{Key}
use Rattle.tables_closed.specs.unit_interface.Merge.{same_key, place_of_key, with_key, ids_of}
use Rattle.tables_closed.proofs.unit_interface_proofs.KeyLaws.{key_itself, none_found, AreApart, key_place, known_after}

both_true : (a b : Bool) → (a && b) ≡ true → (a ≡ true) × (b ≡ true)
both_true true b e = (refl, e)
both_true false b e = (let f : false ≡ true = e in cc)

-- keys that are told the same are the same
same_keys : (one other : Key) → same_key one other ≡ true → one ≡ other
same_keys one other e =
    let both = both_true (same_bytes one.unit other.unit) (nat_eq one.number other.number) e in
    let unit : one.unit ≡ other.unit = same_text one.unit other.unit (sym both.0) in
    let number : one.number ≡ other.number = eqb-true one.number other.number both.1 in
    ap (λ (u : List ℕ). (let k : Key = record { unit = u; number = one.number } in k)) unit
    ∙ ap (λ (n : ℕ). (let k : Key = record { unit = other.unit; number = n } in k)) number

-- a key that is found stands there
pub found_key : (keys : List Key) (key : Key) (place : ℕ) → position (same_key key) keys ≡ Some place → slice_get keys place ≡ Some key
found_key keys key place found =
    let f = position-Some (same_key key) keys place key found in
    slice_get-get_or keys place key f.0 ∙ ap (λ (k : Key). Some k) (sym (same_keys key (get_or keys place key) f.1))

-- its place, where no key stands twice
pub place_at : (keys : List Key) (key : Key) (place : ℕ) → AreApart keys → slice_get keys place ≡ Some key → place_of_key keys key ≡ place
place_at keys key place apart at = by (position (same_key key) keys) refl
  where
    by : (o : Option ℕ) → position (same_key key) keys ≡ o → unwrap_or o (length keys) ≡ place
    by None none = absurd (none_found (same_key key) keys place key none (key_itself key) at)
    by (Some found) is = apart found place key (found_key keys key found is) at

-- a place within the list is that of the key
pub at_place : (keys : List Key) (key : Key) → place_of_key keys key < length keys → slice_get keys (place_of_key keys key) ≡ Some key
at_place keys key within = by (position (same_key key) keys) refl within
  where
    by : (o : Option ℕ) → position (same_key key) keys ≡ o → unwrap_or o (length keys) < length keys → slice_get keys (unwrap_or o (length keys)) ≡ Some key
    by None none low = absurd (omega arith)
    by (Some found) is low = found_key keys key found is

-- what stands nowhere isn't found
pub not_found : (keys : List Key) (key : Key) → ((place : ℕ) → slice_get keys place ≡ Some key → ⊥) → position (same_key key) keys ≡ None
not_found keys key none = by (position (same_key key) keys) refl
  where
    by : (o : Option ℕ) → position (same_key key) keys ≡ o → o ≡ None
    by None is = refl
    by (Some found) is = absurd (none found (found_key keys key found is))

-- ---- keys with those of a list that are new

slice_get-push : (keys : List Key) (last : Key) (place : ℕ) (key : Key) → slice_get keys place ≡ Some key → slice_get (keys ++ last ∷ []) place ≡ Some key
slice_get-push [] last zero key at = cc
slice_get-push [] last (suc place) key at = cc
slice_get-push (first ∷ keys) last zero key at = at
slice_get-push (first ∷ keys) last (suc place) key at = slice_get-push keys last place key at

with_front : (known : List Key) (last : Key) (place : ℕ) (key : Key) → slice_get known place ≡ Some key → slice_get (with_key known last) place ≡ Some key
with_front known last place key at = by (is_some (position (same_key last) known))
  where
    by : (b : Bool) → slice_get (cond b known (known ++ last ∷ [])) place ≡ Some key
    by true = at
    by false = slice_get-push known last place key at

-- those that were known stay
pub after_prefix : (known keys : List Key) (place : ℕ) (key : Key) → slice_get known place ≡ Some key → slice_get (known_after known keys) place ≡ Some key
after_prefix known [] place key at = at
after_prefix known (one ∷ keys) place key at = after_prefix (with_key known one) keys place key (with_front known one place key at)

-- a key stands at a place of a list
pub record At (keys : List Key) (key : Key) : Type 0 where
  pub place : ℕ
  pub at : slice_get keys place ≡ Some key

with_from : (known : List Key) (last : Key) (place : ℕ) (key : Key) → slice_get (with_key known last) place ≡ Some key → (slice_get known place ≡ Some key) ⊎ (last ≡ key)
with_from known last place key at = by (is_some (position (same_key last) known)) at
  where
    by : (b : Bool) → slice_get (cond b known (known ++ last ∷ [])) place ≡ Some key → (slice_get known place ≡ Some key) ⊎ (last ≡ key)
    by true e = inl e
    by false e = elim (key_place known last place key e) [ inl before ↦ inl before | inr end ↦ inr (end.1) ]

-- and each of them was known, or is of the list
pub after_from : (known keys : List Key) (place : ℕ) (key : Key) → slice_get (known_after known keys) place ≡ Some key → (slice_get known place ≡ Some key) ⊎ At keys key
after_from known [] place key at = inl at
after_from known (one ∷ keys) place key at =
    elim (after_from (with_key known one) keys place key at) [
      | inl there ↦ elim (with_from known one place key there) [
        | inl before ↦ inl before
        | inr same ↦ inr (record { place = 0; at = ap (λ (k : Key). Some k) same })
      ]
      | inr more ↦ inr (record { place = suc more.place; at = more.at })
    ]

-- a key stands among those with it where its place was
pub lands : (known : List Key) (key : Key) → slice_get (with_key known key) (place_of_key known key) ≡ Some key
lands known key = by (position (same_key key) known) refl
  where
    last : (keys : List Key) → slice_get (keys ++ key ∷ []) (length keys) ≡ Some key
    last [] = refl
    last (x ∷ xs) = last xs

    by : (o : Option ℕ) → position (same_key key) known ≡ o → slice_get (cond (is_some o) known (known ++ key ∷ [])) (unwrap_or o (length known)) ≡ Some key
    by None is = last known
    by (Some found) is = found_key known key found is

-- those of the list all stand there, each under its id
pub id_lands : (known keys : List Key) (number : ℕ) (key : Key) (d : TypeId) → slice_get keys number ≡ Some key
    → slice_get (known_after known keys) (get_or (ids_of known keys) number d).0 ≡ Some key
id_lands known [] zero key d at = cc
id_lands known [] (suc number) key d at = cc
id_lands known (one ∷ keys) zero key d at =
    let same : one ≡ key = cc in
    subst (λ (k : Key). slice_get (known_after (with_key known one) keys) (place_of_key known one) ≡ Some k) same
    (after_prefix (with_key known one) keys (place_of_key known one) one (lands known one))
id_lands known (one ∷ keys) (suc number) key d at = id_lands (with_key known one) keys number key d at

-- ---- the first keys of a list

pub record IsFirst (keys : List Key) (number place : ℕ) (key : Key) : Type 0 where
  pub at : slice_get keys place ≡ Some key
  pub low : place < number

pub in_first : (keys : List Key) (number place : ℕ) (key : Key) → slice_get (take number keys) place ≡ Some key → IsFirst keys number place key
in_first [] zero place key at = by place at
  where
    by : (place : ℕ) → slice_get (let ks : List Key = [] in ks) place ≡ Some key → IsFirst [] zero place key
    by zero e = cc
    by (suc p) e = cc
in_first [] (suc number) place key at = by place at
  where
    by : (place : ℕ) → slice_get (let ks : List Key = [] in ks) place ≡ Some key → IsFirst [] (suc number) place key
    by zero e = cc
    by (suc p) e = cc
in_first (one ∷ keys) zero place key at = by place at
  where
    by : (place : ℕ) → slice_get (let ks : List Key = [] in ks) place ≡ Some key → IsFirst (one ∷ keys) zero place key
    by zero e = cc
    by (suc p) e = cc
in_first (one ∷ keys) (suc number) zero key at = record { at = at; low = omega arith }
in_first (one ∷ keys) (suc number) (suc place) key at =
    let rest = in_first keys number place key at in
    record { at = rest.at; low = omega (arith, rest.low) }

-- ---- ids

pub id_there : (known keys : List Key) (number : ℕ) (key : Key) → slice_get keys number ≡ Some key
    → slice_get (ids_of known keys) number ≡ Some (record { 0 = place_of_key (known_after known (take number keys)) key })
id_there known [] zero key at = cc
id_there known [] (suc number) key at = cc
id_there known (one ∷ keys) zero key at =
    let same : one ≡ key = cc in
    ap (λ (k : Key). (let o : Option TypeId = Some (record { 0 = place_of_key known k }) in o)) same
id_there known (one ∷ keys) (suc number) key at = id_there (with_key known one) keys number key at
