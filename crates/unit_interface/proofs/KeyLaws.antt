-- Types that come from one declaration are one type, in each scope of a unit that uses others.
use Rattle.std.proofs.Common.{◌≡◌, ℕ, zero, suc, ◌+◌, ◌<◌, ◌≤◌, Bool, true, false, ◌&&◌, not, cond, List, [], ◌∷◌, ◌++◌, length, map, take, Option, Some, None, get_or, refl, arith, sym, ap, ◌∙◌, subst, ◌⊎◌, inl, inr, nat_eq, nat_lt, eq-eqb, length-append, add-one}
use Rattle.std.specs.Prelude.{All, slice_get, position, unwrap_or, is_some, option_map}
use Rattle.std.specs.List.{position_or_len, list_all}
use Rattle.std.specs.Cmp.Lexicographic.{same_text}
use Rattle.std.proofs.Math.Seq.{get_or-append_seam}
use Rattle.std.proofs.Math.ListN.{get_or-append}
use Rattle.std.proofs.lemmas.Bool.{lt-ltb, le-ltb, ltb-true, ltb-false}
use Rattle.std.proofs.lemmas.List.{length-map, take_all}
use Rattle.std.proofs.lemmas.List.Elements.{All-head, All-tail, All-cons, All-push, All-weaker}
use Rattle.std.proofs.lemmas.List.Sums.{fails_before_first}
use Rattle.std.proofs.lemmas.List.Quantifiers.{position-Some}
use Rattle.std.proofs.lemmas.Option.{slice_get_cases, slice_get_within, slice_get-map, get_or_from_slice_get}
use Rattle.type_layout.specs.declared.definitions.TypeId.{TypeId}
use Rattle.type_layout.specs.declared.definitions.TypeDef.{TypeDef}
use Rattle.type_layout.specs.declared.definitions.Origin.{Origin}
use Rattle.type_layout.specs.Words.{same_bytes}
use Rattle.type_layout.specs.Table.{Table, place_of, with_unit, with_type}
use Rattle.scopes.specs.Environment.{Environment}
use Rattle.scopes.specs.Predeclared.{type_table, first}
use Rattle.unit_interface.specs.declared.keys.Key.{Key}
use Rattle.unit_interface.specs.declared.interfaces.Interface.{Interface}
use Rattle.unit_interface.specs.Merge.{same_key, key_of, keys_of, place_of_key, with_key, ids_of, ids_in, renumbered, with_listed, is_new, with_merged, merged}
use Rattle.unit_interface.specs.Resolve.{is_overlay, interface_named, with_overlay, with_found, with_use, with_uses, resolved}
use Rattle.unit_interface.specs.Keyed.{IsKeyed}
use Rattle.unit_interface.proofs.MergeLaws.{take-next, map-push, merged-new, merged-old}
use Rattle.unit_interface.proofs.OrderLaws.{contrary}
use Rattle.unit_interface.proofs.ReachLaws.{both_true}

-- ---- equal bytes, equal keys

pub same_itself : (xs : List ℕ) → same_bytes xs xs ≡ true
same_itself [] = refl
same_itself (x ∷ xs) = ap (λ (b : Bool). b && same_bytes xs xs) (eq-eqb x x refl) ∙ same_itself xs

pub key_itself : (key : Key) → same_key key key ≡ true
key_itself key = ap (λ (b : Bool). b && nat_eq key.number key.number) (same_itself key.unit) ∙ eq-eqb key.number key.number refl

-- a name that is found stands there
pub found_name : (units : List (List ℕ)) (unit : List ℕ) (place : ℕ) → position (same_bytes unit) units ≡ Some place
    → (place < length units) × (get_or units place [] ≡ unit)
found_name units unit place found =
    let f = position-Some (same_bytes unit) units place [] found in
    (f.0, sym (same_text unit (get_or units place []) (sym f.1)))

-- what isn't found stands nowhere
pub none_found : {A : Type 0} (p : A → Bool) (xs : List A) (k : ℕ) (x : A) → position p xs ≡ None → p x ≡ true → slice_get xs k ≡ Some x → ⊥
none_found {A} p xs k x none holds at = by (nat_lt (position_or_len p xs) (length xs)) refl none
  where
    by : (b : Bool) → nat_lt (position_or_len p xs) (length xs) ≡ b → (let o : Option ℕ = cond b (Some (position_or_len p xs)) None in o) ≡ None → ⊥
    by true found none = cc
    by false past none =
        let within = slice_get_within xs k x at in
        let below : k < position_or_len p xs = omega (arith, within, ltb-false (position_or_len p xs) (length xs) past) in
        let fails : p (get_or xs k x) ≡ false = fails_before_first p xs k x below in
        contrary (p x) holds (ap p (sym (get_or_from_slice_get xs k x x at)) ∙ fails)

-- ---- a further type

-- units with a further one: it stands at its place, and the others stay
pub record IsAdded (units : List (List ℕ)) (unit : List ℕ) (place : ℕ) (longer : List (List ℕ)) : Type 0 where
  pub at : get_or longer place [] ≡ unit
  pub within : place < length longer
  pub stay : (k : ℕ) → k < length units → get_or longer k [] ≡ get_or units k []
  pub more : length units ≤ length longer

pub is_added : (units : List (List ℕ)) (unit : List ℕ) → IsAdded units unit (place_of units unit) (with_unit units unit)
is_added units unit = by (position (same_bytes unit) units) refl
  where
    by : (o : Option ℕ) → position (same_bytes unit) units ≡ o → IsAdded units unit (unwrap_or o (length units)) (cond (is_some o) units (units ++ unit ∷ []))
    by (Some place) found =
        let f = found_name units unit place found in
        record { at = f.1; within = f.0; stay = λ k below. refl; more = omega arith }
    by None found = record {
      at = get_or-append_seam units unit [] [];
      within = omega (arith, length-append units (unit ∷ []));
      stay = λ k below. get_or-append units (unit ∷ []) [] k below;
      more = omega (arith, length-append units (unit ∷ []));
    }

pub keys_stay : (units longer : List (List ℕ)) (origins : List Origin) → ((k : ℕ) → k < length units → get_or longer k [] ≡ get_or units k [])
    → All (λ (o : Origin). o.unit < length units) origins → map (key_of longer) origins ≡ map (key_of units) origins
keys_stay units longer [] stay known = refl
keys_stay units longer (origin ∷ origins) stay known =
    let here : key_of longer origin ≡ key_of units origin =
    ap (λ (unit : List ℕ). (let k : Key = record { unit = unit; number = origin.number } in k))
    (stay origin.unit (All-head (λ (o : Origin). o.unit < length units) origin origins known)) in
    ap (λ (k : Key). k ∷ map (key_of longer) origins) here
    ∙ ap (λ (ks : List Key). key_of units origin ∷ ks) (keys_stay units longer origins stay (All-tail (λ (o : Origin). o.unit < length units) origin origins known))

pub keys_with : (table : Table) (unit : List ℕ) (number : ℕ) (one : TypeDef) → All (λ (o : Origin). o.unit < length table.units) table.origins
    → keys_of (with_type table unit number one) ≡ keys_of table ++ (record { unit = unit; number = number }) ∷ []
keys_with table unit number one known =
    let longer : List (List ℕ) = with_unit table.units unit in
    let a = is_added table.units unit in
    let last : Origin = record { unit = place_of table.units unit; number = number } in
    map-push (key_of longer) table.origins last
    ∙ ap (λ (ks : List Key). ks ++ key_of longer last ∷ []) (keys_stay table.units longer table.origins a.stay known)
    ∙ ap (λ (u : List ℕ). keys_of table ++ (record { unit = u; number = number }) ∷ []) a.at

-- no key stands twice
abbrev pub AreApart : List Key → Type 0
AreApart keys = (one other : ℕ) (key : Key) → slice_get keys one ≡ Some key → slice_get keys other ≡ Some key → one ≡ other

-- where a key stands in a list with a further one
pub key_place : (keys : List Key) (last : Key) (k : ℕ) (key : Key) → slice_get (keys ++ last ∷ []) k ≡ Some key
    → (slice_get keys k ≡ Some key) ⊎ ((k ≡ length keys) × (last ≡ key))
key_place [] last zero key at = inr (refl, cc)
key_place [] last (suc k) key at = absurd (cc)
key_place (first ∷ keys) last zero key at = inl at
key_place (first ∷ keys) last (suc k) key at =
    elim (key_place keys last k key at) [ inl before ↦ inl before | inr end ↦ inr (omega (arith, end.0), end.1) ]

pub apart_push : (keys : List Key) (last : Key) → AreApart keys → position (same_key last) keys ≡ None → AreApart (keys ++ last ∷ [])
apart_push keys last apart none one other key at there =
    elim (key_place keys last one key at) [
      | inl here ↦ elim (key_place keys last other key there) [
        | inl also ↦ apart one other key here also
        | inr end ↦ absurd (none_found (same_key last) keys one key none (ap (same_key last) (sym end.1) ∙ key_itself last) here)
      ]
      | inr end ↦ elim (key_place keys last other key there) [
        | inl also ↦ absurd (none_found (same_key last) keys other key none (ap (same_key last) (sym end.1) ∙ key_itself last) also)
        | inr also ↦ omega (arith, end.0, also.0)
      ]
    ]

pub keyed_with : (table : Table) (unit : List ℕ) (number : ℕ) (one : TypeDef) → IsKeyed table
    → position (same_key (record { unit = unit; number = number })) (keys_of table) ≡ None → IsKeyed (with_type table unit number one)
keyed_with table unit number one k none =
    let a = is_added table.units unit in
    let last : Origin = record { unit = place_of table.units unit; number = number } in
    let key : Key = record { unit = unit; number = number } in
    let longer : ℕ = length (with_unit table.units unit) in
    record {
      paired = omega (arith, k.paired, length-append table.origins (last ∷ []), length-append table.types (one ∷ []));
      known = All-push (λ (o : Origin). o.unit < longer) table.origins last
          (All-weaker (λ (o : Origin). o.unit < length table.units) (λ (o : Origin). o.unit < longer) (λ o h. omega (arith, h, a.more)) table.origins k.known)
          a.within;
      apart = subst (λ (keys : List Key). AreApart keys) (sym (keys_with table unit number one k.known)) (apart_push (keys_of table) key k.apart none);
    }

-- ---- the types of another table

-- keys with those of a list that are new
abbrev pub known_after : List Key → List Key → List Key
known_after known [] = known
known_after known (key ∷ keys) = known_after (with_key known key) keys

pub after-push : (known keys : List Key) (key : Key) → known_after known (keys ++ key ∷ []) ≡ with_key (known_after known keys) key
after-push known [] key = refl
after-push known (one ∷ keys) key = after-push (with_key known one) keys key

pub id-at : (known keys : List Key) (number : ℕ) (key : Key) (d : TypeId) → slice_get keys number ≡ Some key
    → (get_or (ids_of known keys) number d).0 ≡ place_of_key (known_after known (take number keys)) key
id-at known [] number key d at = cc
id-at known (one ∷ keys) zero key d at =
    let same : one ≡ key = cc in
    ap (place_of_key known) same
id-at known (one ∷ keys) (suc number) key d at = id-at (with_key known one) keys number key d at

-- the first types of another table came into a table, and its keys with them
pub record IsMergedSo (table other : Table) (number : ℕ) (now : Table) : Type 0 where
  pub keyed : IsKeyed now
  pub keys : keys_of now ≡ known_after (keys_of table) (take number (keys_of other))

pub count_of : (table : Table) → IsKeyed table → length (keys_of table) ≡ length table.types
count_of table k = length-map table.origins (key_of table.units) ∙ k.paired

pub key_at : (table : Table) (number : ℕ) (origin : Origin) → slice_get table.origins number ≡ Some origin
    → slice_get (keys_of table) number ≡ Some (key_of table.units origin)
key_at table number origin from =
    slice_get-map (key_of table.units) table.origins number ∙ ap (option_map (key_of table.units)) from

-- the keys after a further one
pub keys-next : (table other : Table) (number : ℕ) (origin : Origin) → slice_get other.origins number ≡ Some origin
    → known_after (keys_of table) (take (suc number) (keys_of other))
    ≡ with_key (known_after (keys_of table) (take number (keys_of other))) (key_of other.units origin)
keys-next table other number origin from =
    let next : take (number + 1) (keys_of other) ≡ take number (keys_of other) ++ key_of other.units origin ∷ [] =
    take-next (keys_of other) number (key_of other.units origin) (key_at other number origin from) in
    ap (known_after (keys_of table)) (rw add-one at next)
    ∙ after-push (keys_of table) (take number (keys_of other)) (key_of other.units origin)

-- the key is there: the table stays
old_key : (table other now : Table) (number place : ℕ) (origin : Origin) → slice_get other.origins number ≡ Some origin
    → position (same_key (key_of other.units origin)) (keys_of now) ≡ Some place → IsMergedSo table other number now
    → IsMergedSo table other (suc number) (with_merged other (ids_in table other) now number)
old_key table other now number place origin from found so =
    let key : Key = key_of other.units origin in
    let keys : List Key = known_after (keys_of table) (take number (keys_of other)) in
    let f = position-Some (same_key key) (keys_of now) place key found in
    let found_so : position (same_key key) keys ≡ Some place = ap (position (same_key key)) (sym so.keys) ∙ found in
    let id : (get_or (ids_in table other) number (record { 0 = number })).0 ≡ place =
    id-at (keys_of table) (keys_of other) number key (record { 0 = number }) (key_at other number origin from)
    ∙ ap (λ (o : Option ℕ). unwrap_or o (length keys)) found_so in
    let below : nat_lt (get_or (ids_in table other) number (record { 0 = number })).0 (length now.types) ≡ true =
    lt-ltb (get_or (ids_in table other) number (record { 0 = number })).0 (length now.types) (omega (arith, id, f.0, count_of now so.keyed)) in
    let old : is_new (ids_in table other) now number ≡ false = ap not below in
    let stays : now ≡ with_merged other (ids_in table other) now number = sym (merged-old other now (ids_in table other) number old) in
    let same : keys ≡ with_key keys key = ap (λ (o : Option ℕ). cond (is_some o) keys (keys ++ key ∷ [])) (sym found_so) in
    subst (λ (t : Table). IsMergedSo table other (suc number) t) stays (record {
      keyed = so.keyed;
      keys = so.keys ∙ same ∙ sym (keys-next table other number origin from);
    })

-- the key is new: the type is added
new_key : (table other now : Table) (number : ℕ) (one : TypeDef) (origin : Origin) → slice_get other.types number ≡ Some one
    → slice_get other.origins number ≡ Some origin → position (same_key (key_of other.units origin)) (keys_of now) ≡ None
    → IsMergedSo table other number now → IsMergedSo table other (suc number) (with_merged other (ids_in table other) now number)
new_key table other now number one origin at from none so =
    let ids : List TypeId = ids_in table other in
    let key : Key = key_of other.units origin in
    let keys : List Key = known_after (keys_of table) (take number (keys_of other)) in
    let none_so : position (same_key key) keys ≡ None = ap (position (same_key key)) (sym so.keys) ∙ none in
    let id : (get_or ids number (record { 0 = number })).0 ≡ length keys =
    id-at (keys_of table) (keys_of other) number key (record { 0 = number }) (key_at other number origin from)
    ∙ ap (λ (o : Option ℕ). unwrap_or o (length keys)) none_so in
    let past : nat_lt (get_or ids number (record { 0 = number })).0 (length now.types) ≡ false =
    le-ltb (get_or ids number (record { 0 = number })).0 (length now.types)
    (omega (arith, id, ap (λ (ks : List Key). length ks) so.keys, count_of now so.keyed)) in
    let added : TypeDef = renumbered ids (place_of now.units key.unit) one in
    let next : with_merged other ids now number ≡ with_type now key.unit origin.number added =
    merged-new other now ids number one origin key.unit at from refl (ap not past) in
    let longer : keys ++ key ∷ [] ≡ with_key keys key = ap (λ (o : Option ℕ). cond (is_some o) keys (keys ++ key ∷ [])) (sym none_so) in
    subst (λ (t : Table). IsMergedSo table other (suc number) t) (sym next) (record {
      keyed = keyed_with now key.unit origin.number added so.keyed none;
      keys =
          keys_with now key.unit origin.number added so.keyed.known
          ∙ ap (λ (ks : List Key). ks ++ key ∷ []) so.keys ∙ longer ∙ sym (keys-next table other number origin from);
    })

-- no type has this number
no_key : (table other now : Table) (number : ℕ) → length other.origins ≤ number → slice_get other.origins number ≡ None
    → IsMergedSo table other number now → IsMergedSo table other (suc number) (with_merged other (ids_in table other) now number)
no_key table other now number past none so =
    let ids : List TypeId = ids_in table other in
    let len : length (keys_of other) ≡ length other.origins = length-map other.origins (key_of other.units) in
    let stays : now ≡ with_merged other ids now number = sym (unlisted (is_new ids now number) (slice_get other.types number)) in
    let same : take number (keys_of other) ≡ take (suc number) (keys_of other) =
    take_all number (keys_of other) (omega (arith, past, len)) ∙ sym (take_all (suc number) (keys_of other) (omega (arith, past, len))) in
    subst (λ (t : Table). IsMergedSo table other (suc number) t) stays (record {
      keyed = so.keyed;
      keys = so.keys ∙ ap (known_after (keys_of table)) same;
    })
  where
    unlisted : (b : Bool) (o : Option TypeDef)
        → cond b (with_listed (ids_in table other) now other.units o (slice_get other.origins number)) now ≡ now
    unlisted true (Some one) = rw none refl
    unlisted true None = refl
    unlisted false o = refl

merged_next : (table other now : Table) (number : ℕ) (one : TypeDef) → slice_get other.types number ≡ Some one → IsMergedSo table other number now
    → IsMergedSo table other (suc number) (with_merged other (ids_in table other) now number)
merged_next table other now number one at so =
    elim (slice_get_cases other.origins number).1 [
      | inl found ↦ by found.0 (position (same_key (key_of other.units found.0)) (keys_of now)) refl found.2
      | inr none ↦ no_key table other now number none.0 none.1 so
    ]
  where
    by : (origin : Origin) (o : Option ℕ) → position (same_key (key_of other.units origin)) (keys_of now) ≡ o → slice_get other.origins number ≡ Some origin
        → IsMergedSo table other (suc number) (with_merged other (ids_in table other) now number)
    by origin (Some place) found from = old_key table other now number place origin from found so
    by origin None none from = new_key table other now number one origin at from none so

pub merged_so : (table other : Table) → IsKeyed table → (number : ℕ) → number ≤ length other.types
    → IsMergedSo table other number (merged other (ids_in table other) table number)
merged_so table other keyed zero within = record { keyed = keyed; keys = refl }
merged_so table other keyed (suc number) within =
    let so = merged_so table other keyed number (omega (arith, within)) in
    elim (slice_get_cases other.types number).1 [
      | inl found ↦ merged_next table other (merged other (ids_in table other) table number) number found.0 found.2 so
      | inr none ↦ absurd (omega (arith, none.0, within))
    ]

-- ---- scopes

keyed_found : (environment : Environment) (found : Option Interface) → IsKeyed environment.types → IsKeyed (with_found environment found).types
keyed_found environment None keyed = keyed
keyed_found environment (Some interface) keyed =
    (merged_so environment.types interface.types keyed (length interface.types.types) (omega arith)).keyed

keyed_use : (have : List Interface) (environment : Environment) (name : List ℕ) → IsKeyed environment.types → IsKeyed (with_use have environment name).types
keyed_use have environment name keyed = by (is_overlay name)
  where
    by : (b : Bool) → IsKeyed (cond b (with_overlay environment) (with_found environment (interface_named have name))).types
    by true = keyed
    by false = keyed_found environment (interface_named have name) keyed

keyed_uses : (have : List Interface) (environment : Environment) (names : List (List ℕ)) → IsKeyed environment.types → IsKeyed (with_uses have environment names).types
keyed_uses have environment [] keyed = keyed
keyed_uses have environment (name ∷ names) keyed = keyed_uses have (with_use have environment name) names (keyed_use have environment name keyed)

-- keys that are numbered from a number on
abbrev AreNumbered : ℕ → List Key → Type 0
AreNumbered number [] = Unit {0}
AreNumbered number (key ∷ keys) = (key.number ≡ number) × AreNumbered (number + 1) keys

numbered_at : (from : ℕ) (keys : List Key) (k : ℕ) (key : Key) → AreNumbered from keys → slice_get keys k ≡ Some key → key.number ≡ from + k
numbered_at from [] k key all at = cc
numbered_at from (one ∷ keys) zero key all at =
    let same : one ≡ key = cc in
    ap (λ (k : Key). k.number) (sym same) ∙ omega (arith, all.0)
numbered_at from (one ∷ keys) (suc k) key all at = omega (arith, numbered_at (from + 1) keys k key all.1 at)

known_by : (count : ℕ) (origins : List Origin) → list_all (λ origin. nat_lt origin.unit count) origins ≡ true → All (λ (o : Origin). o.unit < count) origins
known_by count [] h = λ k d within. absurd (omega (arith, within))
known_by count (origin ∷ origins) h =
    let both = both_true (nat_lt origin.unit count) (list_all (λ o. nat_lt o.unit count) origins) h in
    All-cons (λ (o : Origin). o.unit < count) origin origins (ltb-true origin.unit count both.0) (known_by count origins both.1)

pub keyed_first : IsKeyed type_table
keyed_first =
    let numbered : AreNumbered 0 (keys_of type_table) =
    (refl, (refl, (refl, (refl, (refl, (refl, (refl, (refl, (refl, (refl, (refl, tt))))))))))) in
    record {
      paired = refl;
      known = known_by (length type_table.units) type_table.origins refl;
      apart = λ one other key at there.
          omega (arith, numbered_at 0 (keys_of type_table) one key numbered at, numbered_at 0 (keys_of type_table) other key numbered there);
    }

-- in the scope of a unit that uses others no two types come from one declaration
pub is_keyed : (have : List Interface) (name : List ℕ) (uses : List (List ℕ)) → IsKeyed (resolved have name uses).types
is_keyed have name uses = keyed_uses have (first name) uses keyed_first
