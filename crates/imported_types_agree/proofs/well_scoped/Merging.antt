-- The ids of types of another table in a table that they come into.
use Rattle.std.proofs.Common.{◌≡◌, ◌∙◌, ℕ, zero, suc, ◌+◌, ◌<◌, ◌≤◌, Bool, true, false, not, cond, nat_lt, ◌-◌, List, [], ◌∷◌, ◌++◌, map, length, get_or, Option, Some, None, refl, sym, ap, subst, arith, length-append}
use Rattle.std.specs.Prelude.{slice_get, position, is_some, unwrap_or}
use Rattle.std.proofs.lemmas.Bool.{lt-ltb, le-ltb}
use Rattle.std.proofs.lemmas.List.{length-map}
use Rattle.std.proofs.lemmas.List.Quantifiers.{position-Some}
use Rattle.tables_closed.specs.type_layout.declared.definitions.TypeId.{TypeId}
use Rattle.tables_closed.specs.type_layout.declared.definitions.TypeDef.{TypeDef}
use Rattle.tables_closed.specs.type_layout.declared.definitions.Origin.{Origin}
use Rattle.tables_closed.specs.type_layout.Table.{Table, place_of, with_type}
use Rattle.tables_closed.specs.unit_interface.Merge.{same_key, key_of, keys_of, place_of_key, with_key, ids_of, ids_in, renumbered, with_listed, is_new, merged}

-- the table of a scope, and the first types of another one that are new there
abbrev pub with_first : Table → Table → ℕ → Table
with_first table other number = merged other (ids_in table other) table number

-- ---- keys

-- what is known behind so many further keys
abbrev known_behind : {A : Type 0} → (List A → A → List A) → List A → List A → ℕ → List A
known_behind more known keys zero = known
known_behind more known [] (suc number) = known
known_behind more known (key ∷ keys) (suc number) = known_behind more (more known key) keys number

known_next : {A : Type 0} (more : List A → A → List A) (known keys : List A) (number : ℕ) (key : A) → slice_get keys number ≡ Some key
    → known_behind more known keys (suc number) ≡ more (known_behind more known keys number) key
known_next more known [] zero key e = cc
known_next more known [] (suc number) key e = cc
known_next more known (first ∷ keys) zero key e = let same : first ≡ key = cc in ap (more known) same
known_next more known (first ∷ keys) (suc number) key e = known_next more (more known first) keys number key e

id_at : (known keys : _) (number : ℕ) (key : _) (d : TypeId) → slice_get keys number ≡ Some key → (get_or (ids_of known keys) number d).0 ≡ place_of_key (known_behind with_key known keys number) key
id_at known [] zero key d e = cc
id_at known [] (suc number) key d e = cc
id_at known (first ∷ keys) zero key d e = let same : first ≡ key = cc in ap (place_of_key known) same
id_at known (first ∷ keys) (suc number) key d e = id_at (with_key known first) keys number key d e

key_at : (units : List (List ℕ)) (origins : List Origin) (number : ℕ) (origin : Origin) → slice_get origins number ≡ Some origin → slice_get (map (key_of units) origins) number ≡ Some (key_of units origin)
key_at units [] zero origin e = cc
key_at units [] (suc number) origin e = cc
key_at units (first ∷ origins) zero origin e = let same : first ≡ origin = cc in ap (λ (o : Origin). Some (key_of units o)) same
key_at units (first ∷ origins) (suc number) origin e = key_at units origins number origin e

-- ---- a type of the other table, new or known

-- behind it the table has as many types as keys are known, and its id is below these
record IsStep (count id : ℕ) (after : Table) : Type 0 where
  counted : length after.types ≡ count
  low : id < length after.types

step : (known : _) (key : _) (id : ℕ) (before added : Table) → length before.types ≡ length known → id ≡ place_of_key known key → length added.types ≡ length before.types + 1
    → IsStep (length (with_key known key)) id (cond (not (nat_lt id (length before.types))) added before)
step known key id before added same place more = by (position (same_key key) known) refl
  where
    by : (o : Option ℕ) → position (same_key key) known ≡ o → IsStep (length (with_key known key)) id (cond (not (nat_lt id (length before.types))) added before)
    by None e =
        let at : id ≡ length known = place ∙ ap (λ (o : Option ℕ). unwrap_or o (length known)) e in
        let past : nat_lt id (length before.types) ≡ false = le-ltb id (length before.types) (omega arith) in
        let longer : length (with_key known key) ≡ length known + 1 =
        ap (λ (o : Option ℕ). length (cond (is_some o) known (known ++ key ∷ []))) e ∙ omega (arith, length-append known (key ∷ [])) in
        rw past (record { counted = omega arith; low = omega arith })
    by (Some at_place) e =
        let at : id ≡ at_place = place ∙ ap (λ (o : Option ℕ). unwrap_or o (length known)) e in
        let low = (position-Some (same_key key) known at_place key e).0 in
        let within : nat_lt id (length before.types) ≡ true = lt-ltb id (length before.types) (omega arith) in
        let as_long : length (with_key known key) ≡ length known = ap (λ (o : Option ℕ). length (cond (is_some o) known (known ++ key ∷ []))) e in
        rw within (record { counted = omega arith; low = omega arith })

-- what a list has at a number below its length
pub record Has {A : Type 0} (xs : List A) (number : ℕ) : Type 0 where
  pub one : A
  pub at : slice_get xs number ≡ Some one

pub has : {A : Type 0} (xs : List A) (number : ℕ) → number < length xs → Has xs number
has [] number low = absurd (omega arith)
has (x ∷ xs) zero low = record { one = x; at = refl }
has (x ∷ xs) (suc number) low = let rest = has xs number (omega arith) in record { one = rest.one; at = rest.at }

module _ (table other : Table) (paired : length table.origins ≡ length table.types) (level : length other.origins ≡ length other.types) where
  -- behind so many types of the other table
  abbrev now : ℕ → Table
  now number = with_first table other number

  -- a type of the other table as it comes into the table
  pub record IsMet (number : ℕ) (one : TypeDef) : Type 0 where
    pub place : ℕ
    pub unit : List ℕ
    pub count : ℕ
    pub is : now (suc number) ≡ cond (is_new (ids_in table other) (now number) number) (with_type (now number) unit count (renumbered (ids_in table other) place one)) (now number)
    pub id : (d : TypeId) → (get_or (ids_in table other) number d).0 < length (now (suc number)).types
    pub counted : length (now (suc number)).types ≡ length (known_behind with_key (keys_of table) (keys_of other) (suc number))

  meets : (number : ℕ) (one : TypeDef) → slice_get other.types number ≡ Some one → number < length other.types → length (now number).types ≡ length (known_behind with_key (keys_of table) (keys_of other) number)
      → IsMet number one
  meets number one at low same =
      let o = has other.origins number (omega arith) in
      let key = key_of other.units o.one in
      let name = get_or other.units o.one.unit [] in
      let known = known_behind with_key (keys_of table) (keys_of other) number in
      let keyed = key_at other.units other.origins number o.one o.at in
      let before = now number in
      let added = with_type before name o.one.number (renumbered (ids_in table other) (place_of before.units name) one) in
      let more : length added.types ≡ length before.types + 1 = omega (arith, length-append before.types (renumbered (ids_in table other) (place_of before.units name) one ∷ [])) in
      let id = (get_or (ids_in table other) number (record { 0 = number })).0 in
      let placed : id ≡ place_of_key known key = id_at (keys_of table) (keys_of other) number key (record { 0 = number }) keyed in
      let s = step known key id before added same placed more in
      let listed : with_listed (ids_in table other) before other.units (slice_get other.types number) (slice_get other.origins number) ≡ added =
      ap (λ (x : Option TypeDef). with_listed (ids_in table other) before other.units x (slice_get other.origins number)) at
      ∙ ap (λ (x : Option Origin). with_listed (ids_in table other) before other.units (Some one) x) o.at in
      let is : now (suc number) ≡ cond (is_new (ids_in table other) before number) added before = ap (λ (t : Table). cond (is_new (ids_in table other) before number) t before) listed in
      record {
        place = place_of before.units name;
        unit = name;
        count = o.one.number;
        is = is;
        id = λ d.
            let at_d : (get_or (ids_in table other) number d).0 ≡ id = id_at (keys_of table) (keys_of other) number key d keyed ∙ sym placed in
            let low : id < length (now (suc number)).types = subst (λ (t : Table). id < length t.types) (sym is) s.low in
            omega arith;
        counted =
            ap (λ (t : Table). length t.types) is ∙ s.counted
            ∙ ap length (sym (known_next with_key (keys_of table) (keys_of other) number key keyed));
      }

  pub counted : (number : ℕ) → number ≤ length other.types → length (now number).types ≡ length (known_behind with_key (keys_of table) (keys_of other) number)
  counted zero low = omega (arith, length-map table.origins (key_of table.units))
  counted (suc number) low =
      let one = has other.types number (omega arith) in
      (meets number one.one one.at (omega arith) (counted number (omega arith))).counted

  pub met : (number : ℕ) (one : TypeDef) → slice_get other.types number ≡ Some one → number < length other.types → IsMet number one
  met number one at low = meets number one at low (counted number (omega arith))

  cond_longer : (b : Bool) (one two : Table) → length two.types ≤ length one.types → length two.types ≤ length (cond b one two).types
  cond_longer true one two h = h
  cond_longer false one two h = omega arith

  next_longer : (number : ℕ) → number < length other.types → length (now number).types ≤ length (now (suc number)).types
  next_longer number low =
      let one = has other.types number low in
      let m = met number one.one one.at low in
      let added = with_type (now number) m.unit m.count (renumbered (ids_in table other) m.place one.one) in
      let more = cond_longer (is_new (ids_in table other) (now number) number) added (now number) (omega (arith, length-append (now number).types (renumbered (ids_in table other) m.place one.one ∷ []))) in
      let is : length (now (suc number)).types ≡ length (cond (is_new (ids_in table other) (now number) number) added (now number)).types = ap (λ (t : Table). length t.types) m.is in
      omega arith

  -- the table grows with each number
  pub longer : (number more : ℕ) → number + more ≤ length other.types → length (now number).types ≤ length (now (number + more)).types
  longer number zero low = let same : length (now number).types ≡ length (now (number + 0)).types = ap (λ (k : ℕ). length (now k).types) (let e : number ≡ number + 0 = omega arith in e) in omega arith
  longer number (suc more) low =
      let rest = longer number more (omega arith) in
      let last = next_longer (number + more) (omega arith) in
      let same : length (now (suc (number + more))).types ≡ length (now (number + suc more)).types = ap (λ (k : ℕ). length (now k).types) (let e : suc (number + more) ≡ number + suc more = omega arith in e) in
      omega arith

  -- an id is one of the table behind all
  pub id_low : (number : ℕ) (d : TypeId) → number < length other.types → (get_or (ids_in table other) number d).0 < length (now (length other.types)).types
  id_low number d low =
      let one = has other.types number low in
      let first = (met number one.one one.at low).id d in
      let k : ℕ = length other.types - suc number in
      let rest = longer (suc number) k (omega arith) in
      let same : length (now (suc number + k)).types ≡ length (now (length other.types)).types = ap (λ (j : ℕ). length (now j).types) (let e : suc number + k ≡ length other.types = omega arith in e) in
      omega arith
