-- Told tables with what a unit declares.
use Rattle.std.proofs.Common.{◌≡◌, ◌∙◌, ◌⊎◌, inl, inr, ℕ, zero, suc, ◌+◌, ◌-◌, ◌<◌, ◌≤◌, ℤ, Bool, true, false, not, cond, nat_lt, nat_eq, List, [], ◌∷◌, ◌++◌, length, Option, Some, None, refl, sym, ap, subst, arith, append-nil, append_assoc, eq-eqb, eqb-true}
use Rattle.std.specs.Prelude.{slice_get, position, unwrap_or, is_some}
use Rattle.std.specs.List.{position_or_len, sum_by}
use Rattle.std.proofs.lemmas.Bool.{ltb-true, ltb-false}
use Rattle.std.proofs.lemmas.List.Folds.{position_or_len_push}
use Rattle.std.proofs.lemmas.List.Sums.{sum_by_push, prefix_len-le-length}
use Rattle.std.proofs.lemmas.Option.{slice_get_within}
use Rattle.interface_soundness.specs.type_layout.declared.definitions.TypeDef.{TypeDef}
use Rattle.interface_soundness.specs.type_layout.declared.definitions.TypeDef.TheVariants.{Ordinal}
use Rattle.interface_soundness.specs.type_layout.declared.definitions.Host.TheVariants as host
use Rattle.interface_soundness.specs.type_layout.declared.definitions.Origin.{Origin}
use Rattle.interface_soundness.specs.type_layout.Words.{same_bytes}
use Rattle.interface_soundness.specs.type_layout.Table.{Table, HasMethodsOf, place_of, with_unit, with_type}
use Rattle.interface_soundness.proofs.type_layout_proofs.Local.{slice_get-append}
use Rattle.interface_soundness.specs.unit_interface.declared.keys.Key.{Key}
use Rattle.interface_soundness.specs.unit_interface.Merge.{keys_of}
use Rattle.interface_soundness.specs.unit_interface.Misfits.{is_enumeration}
use Rattle.interface_soundness.specs.unit_interface.Keyed.{IsKeyed}
use Rattle.interface_soundness.proofs.unit_interface_proofs.KeyLaws as keys
use Rattle.interface_soundness.proofs.unit_interface_proofs.KeyLaws.{same_itself, keys_with, keyed_with, key_place}
use Rattle.interface_soundness.specs.declaration_checker.type_denoters.Additions.{one_of, count_of}
use Rattle.interface_soundness.specs.interfaces.Agreement.{IsPaired}
use Rattle.interface_soundness.specs.interfaces.Declared.{with_declared, Declares}
use Rattle.interface_soundness.specs.interfaces.Declared as declared
use Rattle.interface_soundness.proofs.interfaces.Growing.{adds, declared_grows}
use Rattle.interface_soundness.specs.imported_types_agree.consistent_types.Consistency.{next_key, AreFollowed}
use Rattle.interface_soundness.specs.imported_types_agree.consistent_types.Laws.{IsWithDeclared}
use Rattle.interface_soundness.specs.imported_types_agree.compatible_types.Fits.{HaveOwnMethods}
use Rattle.interface_soundness.proofs.imported_types_agree_proofs.consistent_types.Keys.{not_found}
use Rattle.interface_soundness.proofs.imported_types_agree_proofs.consistent_types.Longer.{in_parts}

-- ---- lists, one behind another

behind_at : {A : Type 0} → (xs ys : List A) (number place : ℕ) → number ≡ length xs + place → slice_get (xs ++ ys) number ≡ slice_get ys place
behind_at [] ys number place is =
    let same : number ≡ place = omega (arith, is) in
    ap (slice_get ys) same
behind_at (x ∷ xs) ys zero place is = absurd (omega (arith, is))
behind_at (x ∷ xs) ys (suc number) place is = behind_at xs ys number place (omega (arith, is))

-- ---- how many types of a unit there are

at_most : {A : Type 0} → (p : A → Bool) (xs : List A) → position_or_len p xs ≤ length xs
at_most p xs = prefix_len-le-length (λ x. not (p x)) xs

-- where a test holds first, at the end if nowhere
place_by : {A : Type 0} → (p : A → Bool) (xs : List A) → unwrap_or (position p xs) (length xs) ≡ position_or_len p xs
place_by p xs = by (nat_lt (position_or_len p xs) (length xs)) refl
  where
    by : (b : Bool) → nat_lt (position_or_len p xs) (length xs) ≡ b → unwrap_or (let o : Option ℕ = cond b (Some (position_or_len p xs)) None in o) (length xs) ≡ position_or_len p xs
    by true found = refl
    by false past =
        let low : position_or_len p xs ≤ length xs = at_most p xs in
        let high = ltb-false (position_or_len p xs) (length xs) past in
        omega (arith, low, high)

pushed : (b : Bool) (count place : ℕ) → nat_eq place count ≡ b → cond b (count + 0) place ≡ place
pushed true count place is = omega (arith, eqb-true place count is)
pushed false count place is = refl

first_place : (units : List (List ℕ)) (unit : List ℕ) → position_or_len (same_bytes unit) (units ++ unit ∷ []) ≡ position_or_len (same_bytes unit) units
first_place units unit =
    let place = position_or_len (same_bytes unit) units in
    position_or_len_push (same_bytes unit) units unit
    ∙ ap (λ (b : Bool). cond (nat_eq place (length units)) (length units + cond b 0 1) place) (same_itself unit)
    ∙ pushed (nat_eq place (length units)) (length units) place refl

-- a unit that was added keeps its place
same_place : (units : List (List ℕ)) (unit : List ℕ) → place_of (with_unit units unit) unit ≡ place_of units unit
same_place units unit = by (is_some (position (same_bytes unit) units))
  where
    by : (b : Bool) → place_of (cond b units (units ++ unit ∷ [])) unit ≡ place_of units unit
    by true = refl
    by false = place_by (same_bytes unit) (units ++ unit ∷ []) ∙ first_place units unit ∙ sym (place_by (same_bytes unit) units)

one_here : (place number : ℕ) → one_of place (record { unit = place; number = number }) ≡ 1
one_here place number = ap (λ (b : Bool). (let n : ℕ = cond b 1 0 in n)) (eq-eqb place place refl)

-- with a further type there is one more
count_next : (table : Table) (unit : List ℕ) (number : ℕ) (one : TypeDef) → count_of (with_type table unit number one) unit ≡ count_of table unit + 1
count_next table unit number one =
    let place = place_of table.units unit in
    let last : Origin = record { unit = place; number = number } in
    ap (λ (k : ℕ). sum_by (one_of k) (table.origins ++ last ∷ [])) (same_place table.units unit)
    ∙ sum_by_push (one_of place) table.origins last
    ∙ ap (λ (n : ℕ). sum_by (one_of place) table.origins + n) (one_here place number)

-- ---- the types and keys of what a unit declares

abbrev own_key : List ℕ → ℕ → Key
own_key unit number = record { unit = unit; number = number }

-- a unit's keys from a number on
abbrev numbered : List ℕ → ℕ → List TypeDef → List Key
numbered unit number [] = []
numbered unit number (one ∷ rest) = own_key unit number ∷ numbered unit (number + 1) rest

types_declared : (unit : List ℕ) (table : Table) (types : List TypeDef) → (with_declared unit table types).types ≡ table.types ++ types
types_declared unit table [] = sym (append-nil table.types)
types_declared unit table (one ∷ rest) = types_declared unit (with_type table unit (count_of table unit) one) rest ∙ append_assoc table.types (one ∷ []) rest

-- the keys of the unit are those of so many types
record IsReady (unit : List ℕ) (table : Table) : Type 0 where
  keyed : IsKeyed table
  low : (place : ℕ) (key : Key) → slice_get (keys_of table) place ≡ Some key → key.unit ≡ unit → key.number < count_of table unit

ready_next : (unit : List ℕ) (table : Table) (one : TypeDef) → IsReady unit table → IsReady unit (with_type table unit (count_of table unit) one)
ready_next unit table one h =
    let count = count_of table unit in
    let key = own_key unit count in
    let longer = with_type table unit count one in
    let more = count_next table unit count one in
    let new : (place : ℕ) → slice_get (keys_of table) place ≡ Some key → ⊥ = λ place at. (let low = h.low place key at refl in omega (arith, low)) in
    let all = keys_with table unit count one h.keyed.known in
    record {
      keyed = keyed_with table unit count one h.keyed (not_found (keys_of table) key new);
      low = λ place other at is. elim (key_place (keys_of table) key place other (ap (λ (ks : List Key). slice_get ks place) (sym all) ∙ at)) [
        | inl old ↦ (let low = h.low place other old is in omega (arith, low, more))
        | inr last ↦ (let same : count ≡ other.number = ap (λ (k : Key). k.number) last.1 in omega (arith, same, more))
      ];
    }

ready_all : (unit : List ℕ) (table : Table) (types : List TypeDef) → IsReady unit table → IsReady unit (with_declared unit table types)
ready_all unit table [] h = h
ready_all unit table (one ∷ rest) h = ready_all unit (with_type table unit (count_of table unit) one) rest (ready_next unit table one h)

keys_declared : (unit : List ℕ) (table : Table) (types : List TypeDef) → IsPaired table → keys_of (with_declared unit table types) ≡ keys_of table ++ numbered unit (count_of table unit) types
keys_declared unit table [] h = sym (append-nil (keys_of table))
keys_declared unit table (one ∷ rest) h =
    let count = count_of table unit in
    let key = own_key unit count in
    let longer = with_type table unit count one in
    keys_declared unit longer rest ((adds table unit count one).pairs h)
    ∙ ap (λ (ks : List Key). ks ++ numbered unit (count_of longer unit) rest) (keys_with table unit count one h.known)
    ∙ append_assoc (keys_of table) (key ∷ []) (numbered unit (count_of longer unit) rest)
    ∙ ap (λ (n : ℕ). keys_of table ++ key ∷ numbered unit n rest) (count_next table unit count one)

some_key : (one key : Key) → Some one ≡ Some key → one ≡ key
some_key one key same = cc

numbered_own : (unit : List ℕ) (number : ℕ) (types : List TypeDef) (place : ℕ) (key : Key) → slice_get (numbered unit number types) place ≡ Some key → key.unit ≡ unit
numbered_own unit number [] place key at = absurd (cc)
numbered_own unit number (one ∷ rest) zero key at = ap (λ (k : Key). k.unit) (sym (some_key (own_key unit number) key at))
numbered_own unit number (one ∷ rest) (suc place) key at = numbered_own unit (number + 1) rest place key at

numbered_at : (unit : List ℕ) (number : ℕ) (types : List TypeDef) (place : ℕ) → place < length types → slice_get (numbered unit number types) place ≡ Some (own_key unit (number + place))
numbered_at unit number [] place low = absurd (omega (arith, low))
numbered_at unit number (one ∷ rest) zero low =
    let same : number ≡ number + 0 = omega arith in
    ap (λ (n : ℕ). Some (own_key unit n)) same
numbered_at unit number (one ∷ rest) (suc place) low =
    let same : (number + 1) + place ≡ number + suc place = omega arith in
    numbered_at unit (number + 1) rest place (omega (arith, low)) ∙ ap (λ (n : ℕ). Some (own_key unit n)) same

pub paired_of : (table : Table) → IsKeyed table → IsPaired table
paired_of table h = record { paired = h.paired; known = h.known }

module _ (unit : List ℕ) (table after : Table) (paired : IsPaired table) (d : Declares unit table after) where
  after_keys : keys_of after ≡ keys_of table ++ numbered unit (count_of table unit) d.types
  after_keys = ap keys_of d.is ∙ keys_declared unit table d.types paired

  pub pairs_behind : IsPaired after
  pairs_behind = subst (λ (t : Table). IsPaired t) (sym d.is) ((declared_grows unit table d.types).pairs paired)

  -- behind the declarations of a unit each type is one that was there, or one of the unit
  pub keys_behind : (number : ℕ) (key : Key) → slice_get (keys_of after) number ≡ Some key → (slice_get (keys_of table) number ≡ Some key) ⊎ (key.unit ≡ unit)
  keys_behind number key at =
      elim (in_parts (keys_of table) (numbered unit (count_of table unit) d.types) number key (ap (λ (ks : List Key). slice_get ks number) (sym after_keys) ∙ at)) [
        | inl old ↦ inl old
        | inr new ↦ inr (numbered_own unit (count_of table unit) d.types new.0 key new.1)
      ]

  pub keys_stay : (number : ℕ) (key : Key) → slice_get (keys_of table) number ≡ Some key → slice_get (keys_of after) number ≡ Some key
  keys_stay number key at =
      ap (λ (ks : List Key). slice_get ks number) after_keys
      ∙ slice_get-append (keys_of table) (numbered unit (count_of table unit) d.types) number (slice_get_within (keys_of table) number key at) ∙ at

-- ---- a told table with them

-- Of a table that has no type of the unit: what it declares is numbered from 0 on, and enumerations are followed by their sets.
module _ (unit : List ℕ) (table : Table) (keyed : IsKeyed table) (followed : AreFollowed table)
    (foreign : (place : ℕ) (key : Key) → slice_get (keys_of table) place ≡ Some key → key.unit ≡ unit → ⊥) where
  ready : IsReady unit table
  ready = record { keyed = keyed; low = λ place key at is. absurd (foreign place key at is) }

  module _ (types : List TypeDef) (behind : declared.AreFollowed types) where
    abbrev longer : Table
    longer = with_declared unit table types

    abbrev count : ℕ
    count = length table.types

    all_keys : keys_of longer ≡ keys_of table ++ numbered unit (count_of table unit) types
    all_keys = keys_declared unit table types (paired_of table keyed)

    enumerated : (place : ℕ) (low high : ℤ) → slice_get types place ≡ Some (Ordinal host.Enumeration low high) → place + 1 < length types
    enumerated place low high at = behind place (ap is_enumeration at)

    key_behind : (number place : ℕ) → number ≡ count + place → place < length types → slice_get (keys_of longer) number ≡ Some (own_key unit (count_of table unit + place))
    key_behind number place is low =
        let long = keys.count_of table keyed in
        ap (λ (ks : List Key). slice_get ks number) all_keys
        ∙ behind_at (keys_of table) (numbered unit (count_of table unit) types) number place (omega (arith, is, long))
        ∙ numbered_at unit (count_of table unit) types place low

    key_front : (number : ℕ) → number < count → slice_get (keys_of longer) number ≡ slice_get (keys_of table) number
    key_front number low =
        let long = keys.count_of table keyed in
        ap (λ (ks : List Key). slice_get ks number) all_keys ∙ slice_get-append (keys_of table) (numbered unit (count_of table unit) types) number (omega (arith, low, long))

    type_at : (number : ℕ) → slice_get longer.types number ≡ slice_get (table.types ++ types) number
    type_at number = ap (λ (ts : List TypeDef). slice_get ts number) (types_declared unit table types)

    old_followed : (number : ℕ) (low high : ℤ) (key : Key) → number < count → slice_get longer.types number ≡ Some (Ordinal host.Enumeration low high) → slice_get (keys_of longer) number ≡ Some key
        → slice_get (keys_of longer) (number + 1) ≡ Some (next_key key)
    old_followed number low high key below stands at =
        let here : slice_get table.types number ≡ Some (Ordinal host.Enumeration low high) = sym (slice_get-append table.types types number below) ∙ sym (type_at number) ∙ stands in
        let next = followed number low high key here (sym (key_front number below) ∙ at) in
        let within = slice_get_within (keys_of table) (number + 1) (next_key key) next in
        let long = keys.count_of table keyed in
        key_front (number + 1) (omega (arith, within, long)) ∙ next

    new_followed : (number place : ℕ) (low high : ℤ) (key : Key) → number ≡ count + place → slice_get longer.types number ≡ Some (Ordinal host.Enumeration low high) → slice_get (keys_of longer) number ≡ Some key
        → slice_get (keys_of longer) (number + 1) ≡ Some (next_key key)
    new_followed number place low high key is stands at =
        let here : slice_get types place ≡ Some (Ordinal host.Enumeration low high) = sym (behind_at table.types types number place is) ∙ sym (type_at number) ∙ stands in
        let more = enumerated place low high here in
        let own : Some (own_key unit (count_of table unit + place)) ≡ Some key = sym (key_behind number place is (omega (arith, more))) ∙ at in
        key_behind (number + 1) (place + 1) (omega (arith, is)) more ∙ as_next (count_of table unit + place) (count_of table unit + (place + 1)) (omega arith) own
      where
        as_next : (first next : ℕ) → next ≡ first + 1 → Some (own_key unit first) ≡ Some key → Some (own_key unit next) ≡ Some (next_key key)
        as_next first next more same = ap (λ (n : ℕ). Some (own_key unit n)) more ∙ ap (λ (k : Key). Some (next_key k)) (some_key (own_key unit first) key same)

    all_followed : AreFollowed longer
    all_followed number low high key stands at = by (nat_lt number count) refl
      where
        by : (b : Bool) → nat_lt number count ≡ b → slice_get (keys_of longer) (number + 1) ≡ Some (next_key key)
        by true below = old_followed number low high key (ltb-true number count below) stands at
        by false past = new_followed number (number - count) low high key (omega (arith, ltb-false number count past)) stands at

    with_own : IsWithDeclared unit table longer
    with_own = record {
      keyed = (ready_all unit table types ready).keyed;
      followed = all_followed;
      types = types;
      more_types = types_declared unit table types;
      keys = numbered unit (count_of table unit) types;
      more_keys = all_keys;
      own = λ number key at. numbered_own unit (count_of table unit) types number key at;
    }

    -- the methods of what the unit declares are of one unit
    own_of : declared.AreOfOneUnit types → HaveOwnMethods unit longer
    own_of methods number key one at is stands = by (nat_lt number count) refl
      where
        by : (b : Bool) → nat_lt number count ≡ b → (u : ℕ) × HasMethodsOf u one
        by true below = absurd (foreign number key (sym (key_front number (ltb-true number count below)) ∙ at) is)
        by false past =
            let high = ltb-false number count past in
            let spot : number ≡ count + (number - count) = omega (arith, high) in
            let here : slice_get types (number - count) ≡ Some one = sym (behind_at table.types types number (number - count) spot) ∙ sym (type_at number) ∙ stands in
            let m = methods (number - count) one here in
            (m.unit, m.methods)

  pub own_methods : (after : Table) → Declares unit table after → HaveOwnMethods unit after
  own_methods after d = subst (λ (t : Table). HaveOwnMethods unit t) (sym d.is) (own_of d.types d.followed d.methods)

  pub is_with_declared : (after : Table) → Declares unit table after → IsWithDeclared unit table after
  is_with_declared after d = subst (λ (t : Table). IsWithDeclared unit table t) (sym d.is) (with_own d.types d.followed)
