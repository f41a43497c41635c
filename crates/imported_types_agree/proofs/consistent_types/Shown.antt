-- The interface of a unit whose table is told is told.
use Rattle.std.proofs.Common.{◌≡◌, ◌∙◌, ℕ, suc, ◌+◌, ◌<◌, Bool, true, false, ◌⊎◌, inl, inr, List, [], ◌∷◌, length, Option, Some, refl, arith, sym, ap, subst}
use Rattle.std.specs.Prelude.{slice_get}
use Rattle.std.specs.Cmp.Lexicographic.{same_text}
use Rattle.std.proofs.lemmas.Option.{slice_get_within, same_Some}
use Rattle.tables_closed.specs.type_layout.declared.definitions.TypeId.{TypeId}
use Rattle.tables_closed.specs.type_layout.declared.definitions.Host.TheVariants as host
use Rattle.tables_closed.specs.type_layout.declared.definitions.TypeDef.{TypeDef}
use Rattle.tables_closed.specs.type_layout.declared.definitions.TypeDef.TheVariants as type
use Rattle.tables_closed.specs.type_layout.Words.{same_bytes}
use Rattle.tables_closed.specs.type_layout.Table.{Table}
use Rattle.tables_closed.specs.typed_tree.declared.units.Unit as typed
use Rattle.tables_closed.specs.unit_interface.declared.keys.Key.{Key}
use Rattle.tables_closed.specs.unit_interface.declared.interfaces.Interface.{Interface}
use Rattle.tables_closed.specs.unit_interface.Merge.{keys_of, new_id, renumbered}
use Rattle.tables_closed.specs.unit_interface.Exports.{in_type, behind, in_front, goes_with, is_in, kept_before, new_ids, kept, IsInterfaceOf}
use Rattle.tables_closed.specs.unit_interface.Keyed.{IsKeyed}
use Rattle.tables_closed.proofs.unit_interface_proofs.OrderLaws.{IsIn, contrary, in_append, in_left, in_one, only_one}
use Rattle.tables_closed.proofs.unit_interface_proofs.ReachLaws.{goes_along, goes_in_front, is_front}
use Rattle.tables_closed.proofs.unit_interface_proofs.KeyLaws.{same_itself}
use Rattle.tables_closed.proofs.unit_interface_proofs.KeptLaws.{get_or-new_ids}
use Rattle.tables_closed.specs.constants.Bounds.{AreBelow}
use Rattle.imported_types_agree.specs.consistent_types.Consistency.{home_of, between, Stands, AreAtHome, AreAlike, next_key, AreFollowed, AreFronted, IsWellScopedTable, AreWellScopedHomes, IsConsistent, IsConsistentWithOthers}
use Rattle.imported_types_agree.proofs.consistent_types.Twice.{AllOf, twice_type}
use Rattle.imported_types_agree.proofs.consistent_types.Keys.{place_at}
use Rattle.imported_types_agree.proofs.consistent_types.Named.{all_in}
use Rattle.imported_types_agree.proofs.consistent_types.Known.{keys_long, key_there, type_there, own_named, between_at, same_id}
use Rattle.imported_types_agree.proofs.consistent_types.Carried.{enumeration_was, carried}
use Rattle.imported_types_agree.proofs.consistent_types.Arrived.{some_is}
use Rattle.imported_types_agree.proofs.consistent_types.Kept.{IsKeptTo, next_kept, kept_to}

-- a name is another's, or not
name_is : (one other : List ℕ) → (one ≡ other) ⊎ (one ≡ other → ⊥)
name_is one other = by (same_bytes one other) refl
  where
    by : (b : Bool) → same_bytes one other ≡ b → (one ≡ other) ⊎ (one ≡ other → ⊥)
    by true e = inl (same_text one other (sym e))
    by false e = inr (λ same. contrary (same_bytes one other) (ap (same_bytes one) (sym same) ∙ same_itself one) e)

below_of : (n : ℕ) (xs : List ℕ) (x : ℕ) → AreBelow n xs → IsIn x xs → x < n
below_of n [] x h e = contrary false e refl
below_of n (y ∷ ys) x h e =
    elim (in_append x (y ∷ []) ys e) [
      | inl here ↦ (let same = only_one x y here in omega (arith, h.0, same))
      | inr more ↦ below_of n ys x h.1 more
    ]

-- the table of a unit, and which of its types are shown
module _ (have : List Interface) (homes : AreWellScopedHomes have) (unit : typed.Unit) (but : IsConsistentWithOthers have unit.name unit.types) (closed : IsWellScopedTable unit.types) (reached : List ℕ)
    (goes : (number to : ℕ) (one : TypeDef) → is_in reached number ≡ true → slice_get unit.types.types number ≡ Some one → is_in (goes_with unit.types.types number (Some one)) to ≡ true
    → to < length unit.types.types → is_in reached to ≡ true)
    (home_is : home_of have unit.name ≡ Some (kept unit.types reached (new_ids reached (length unit.types.types)) (length unit.types.types))) where
  abbrev own : Table
  own = unit.types

  abbrev ids : List TypeId
  ids = new_ids reached (length unit.types.types)

  abbrev table : Table
  table = kept unit.types reached (new_ids reached (length unit.types.types)) (length unit.types.types)

  all : IsKeptTo own reached ids but.keyed (length own.types) table
  all = kept_to own reached ids but.keyed

  -- a type that is shown
  abbrev Met : ℕ → Type 0
  Met x = (x < length unit.types.types) × (is_in reached x ≡ true)

  -- a type that is shown names such types
  named_met : (number : ℕ) (one : TypeDef) → is_in reached number ≡ true → slice_get own.types number ≡ Some one → AllOf Met (in_type one)
  named_met number one met at =
      all_in Met (in_type one) (λ x e.
      let low = below_of (length own.types) (in_type one) x (own_named own number one closed at) e in
      (low, goes number x one met at (goes_along own.types number x (Some one) (in_left x (in_type one) (behind number one) e)) low))

  id_is : (ty : TypeId) → ty.0 < length own.types → (new_id ids ty).0 ≡ kept_before reached ty.0
  id_is ty low = get_or-new_ids reached (length own.types) ty.0 ty low

  carries : (key : Key) (ty : TypeId) → Met ty.0 → slice_get (keys_of own) ty.0 ≡ Some key → slice_get (keys_of table) (new_id ids ty).0 ≡ Some key
  carries key ty met at =
      ap (slice_get (keys_of table)) (id_is ty met.0) ∙ all.there ty.0 key met.0 met.1 at

  -- where the unit's own types are at home
  own_home : (key : Key) (home : Table) → key.unit ≡ unit.name → home_of have key.unit ≡ Some home → table ≡ home
  own_home key home mine is = same_Some table home (sym home_is ∙ ap (home_of have) (sym mine) ∙ is)

  itself : (ty : TypeId) → Met ty.0 → new_id (between table table) (new_id ids ty) ≡ new_id ids ty
  itself ty met =
      let k = key_there own ty.0 (omega (arith, met.0, keys_long own closed.paired)) in
      let q : TypeId = new_id ids ty in
      let there : slice_get (keys_of table) q.0 ≡ Some k.0 = carries k.0 ty met k.1 in
      same_id (new_id (between table table) q) q (between_at table table q.0 k.0 q there ∙ place_at (keys_of table) k.0 q.0 all.keyed.apart there)

  alike_shown : AreAlike have table
  alike_shown number place key home first one at stands is there f =
      let k = all.from number key one at stands in
      let met = named_met k.number k.was k.met k.stands in
      elim (name_is key.unit unit.name) [
        | inl mine ↦
            let h : table ≡ home = own_home key home mine is in
            let there_too : slice_get (keys_of table) place ≡ Some key = subst (λ (t : Table). slice_get (keys_of t) place ≡ Some key) (sym h) there in
            let f_too : slice_get table.types place ≡ Some first = subst (λ (t : Table). slice_get t.types place ≡ Some first) (sym h) f in
            let spot : number ≡ place = all.keyed.apart number place key at there_too in
            let same : one ≡ first = some_is one first (sym stands ∙ ap (slice_get table.types) spot ∙ f_too) in
            let twice : renumbered (between table table) k.unit (renumbered ids k.unit k.was) ≡ renumbered ids k.unit k.was =
            twice_type Met ids (between table table) ids itself k.unit k.unit k.was met in
            record {
              unit = k.unit;
              is = k.is ∙ sym twice ∙ ap (renumbered (between table table) k.unit) (sym k.is ∙ same) ∙ ap (λ (t : Table). renumbered (between t table) k.unit first) h;
            }
        | inr other ↦
            let a = but.alike k.number place key home first k.was other k.key_at k.stands is there f in
            let here = own_named home place first (homes key.unit home is) f in
            let low : AreBelow (length own.types) (in_type (renumbered (between home own) a.unit first)) =
            subst (λ (t : TypeDef). AreBelow (length own.types) (in_type t)) a.is (own_named own k.number k.was closed k.stands) in
            let all_met : AllOf Met (in_type (renumbered (between home own) a.unit first)) = subst (λ (t : TypeDef). AllOf Met (in_type t)) a.is met in
            record {
              unit = k.unit;
              is = k.is ∙ ap (renumbered ids k.unit) a.is ∙ carried home own table ids Met (homes key.unit home is) closed.paired all.keyed.apart carries k.unit a.unit first here low all_met;
            }
      ]

  -- behind an enumeration that is shown stands what its unit declares next
  followed_shown : AreFollowed table
  followed_shown number low high key stands at =
      let k = all.from number key (type.Ordinal host.Enumeration low high) at stands in
      let was : slice_get own.types k.number ≡ Some (type.Ordinal host.Enumeration low high) =
      k.stands ∙ ap (λ (t : TypeDef). Some t) (enumeration_was ids k.unit low high k.was k.is) in
      let next : slice_get (keys_of own) (k.number + 1) ≡ Some (next_key key) = but.followed k.number low high key was k.key_at in
      let inside : k.number + 1 < length own.types = omega (arith, slice_get_within (keys_of own) (k.number + 1) (next_key key) next, keys_long own closed.paired) in
      let met : is_in reached (k.number + 1) ≡ true =
      goes k.number (k.number + 1) (type.Ordinal host.Enumeration low high) k.met was
      (goes_along own.types k.number (k.number + 1) (Some (type.Ordinal host.Enumeration low high)) (in_one (k.number + 1))) inside in
      let spot : kept_before reached (k.number + 1) ≡ number + 1 =
      ap (kept_before reached) (let e : k.number + 1 ≡ suc k.number = omega arith in e) ∙ next_kept reached k.number k.met ∙ ap (λ (n : ℕ). n + 1) (sym k.spot) in
      ap (slice_get (keys_of table)) (sym spot) ∙ all.there (k.number + 1) (next_key key) inside met next

  fronted_shown : AreFronted have table
  fronted_shown number place key home low high at is there f =
      elim (name_is key.unit unit.name) [
        | inl mine ↦ (let h : table ≡ home = own_home key home mine is in record { place = place; at = subst (λ (t : Table). slice_get (keys_of t) place ≡ Some key) (sym h) there })
        | inr other ↦
            let one = type_there table number (next_key key) all.keyed.paired at in
            let k = all.from number (next_key key) one.0 at one.1 in
            let s = but.fronted k.number place key home low high other k.key_at is there f in
            let w = type_there own s.place key closed.paired s.at in
            let a = but.alike s.place place key home (type.Ordinal host.Enumeration low high) w.0 other s.at w.1 is there f in
            let made : w.0 ≡ type.Ordinal host.Enumeration low high = a.is in
            let was : slice_get own.types s.place ≡ Some (type.Ordinal host.Enumeration low high) = w.1 ∙ ap (λ (t : TypeDef). Some t) made in
            let next = but.followed s.place low high key was s.at in
            let spot : s.place + 1 ≡ k.number = but.keyed.apart (s.place + 1) k.number (next_key key) next k.key_at in
            let inside : s.place < length own.types = slice_get_within own.types s.place (type.Ordinal host.Enumeration low high) was in
            let front : IsIn s.place (goes_with own.types k.number (Some k.was)) =
            goes_in_front own.types k.number s.place k.was (subst (λ (n : ℕ). IsIn s.place (in_front own.types n)) spot (is_front own.types s.place low high was)) in
            let met : is_in reached s.place ≡ true = goes k.number s.place k.was k.met k.stands front inside in
            record { place = kept_before reached s.place; at = all.there s.place key inside met s.at }
      ]

  pub kept_told : IsConsistent have table
  kept_told = record { keyed = all.keyed; alike = alike_shown; followed = followed_shown; fronted = fronted_shown }

  pub kept_home : AreAtHome have table
  kept_home number key at =
      elim (name_is key.unit unit.name) [
        | inl mine ↦ record { home = table; is = ap (home_of have) mine ∙ home_is; stands = record { place = number; at = at } }
        | inr other ↦
            let one = type_there table number key all.keyed.paired at in
            let k = all.from number key one.0 at one.1 in
            but.at_home k.number key other k.key_at
      ]

-- ---- the interface

module _ (unit : typed.Unit) (i : Interface) (shows : IsInterfaceOf unit i) where
  -- what goes with a type that is shown is shown
  pub goes_shown : (number to : ℕ) (one : TypeDef) → is_in shows.reached number ≡ true → slice_get unit.types.types number ≡ Some one
      → is_in (goes_with unit.types.types number (Some one)) to ≡ true → to < length unit.types.types → is_in shows.reached to ≡ true
  goes_shown number to one met at goes below =
      let own : List TypeDef = unit.types.types in
      let h = (shows.exactly number (slice_get_within own number one at)).0 met in
      let named : is_in (goes_with own number (slice_get own number)) to ≡ true = ap (λ (o : Option TypeDef). is_in (goes_with own number o) to) at ∙ goes in
      (shows.exactly to below).1 (record { steps = suc h.steps; within = (number, h.within, named, below) })

  types_are : i.types ≡ kept unit.types shows.reached (new_ids shows.reached (length unit.types.types)) (length unit.types.types)
  types_are = ap (λ (one : Interface). one.types) shows.is

  -- the key of a type that is shown, and back
  pub kept_key : IsKeyed unit.types → (number : ℕ) (key : Key) → is_in shows.reached number ≡ true → slice_get (keys_of unit.types) number ≡ Some key
      → slice_get (keys_of i.types) (kept_before shows.reached number) ≡ Some key
  kept_key keyed number key met at =
      let low : number < length unit.types.types = omega (arith, slice_get_within (keys_of unit.types) number key at, keys_long unit.types keyed.paired) in
      ap (λ (t : Table). slice_get (keys_of t) (kept_before shows.reached number)) types_are
      ∙ (kept_to unit.types shows.reached (new_ids shows.reached (length unit.types.types)) keyed).there number key low met at

  pub shown_key : IsKeyed unit.types → (number : ℕ) (key : Key) → slice_get (keys_of i.types) number ≡ Some key → Stands (keys_of unit.types) key
  shown_key keyed number key at =
      let k = kept_to unit.types shows.reached (new_ids shows.reached (length unit.types.types)) keyed in
      let there = subst (λ (t : Table). slice_get (keys_of t) number ≡ Some key) types_are at in
      let one = type_there _ number key k.keyed.paired there in
      let f = k.from number key one.0 there one.1 in
      record { place = f.number; at = f.key_at }

  module _ (have : List Interface) (homes : AreWellScopedHomes have) (but : IsConsistentWithOthers have unit.name unit.types) (closed : IsWellScopedTable unit.types)
      (home_is : home_of have unit.name ≡ Some i.types) where
    home_too : home_of have unit.name ≡ Some (kept unit.types shows.reached (new_ids shows.reached (length unit.types.types)) (length unit.types.types))
    home_too = home_is ∙ ap (λ (t : Table). Some t) types_are

    pub shown_told : IsConsistent have i.types
    shown_told = subst (IsConsistent have) (sym types_are) (kept_told have homes unit but closed shows.reached goes_shown home_too)

    pub shown_home : AreAtHome have i.types
    shown_home = subst (AreAtHome have) (sym types_are) (kept_home have homes unit but closed shows.reached goes_shown home_too)
