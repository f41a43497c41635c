-- A type of a told interface whose key a told table knows is the same there, under its new ids.
use Rattle.std.proofs.Common.{◌≡◌, ◌∙◌, ℕ, ◌<◌, List, [], length, take, Option, Some, get_or, arith, sym, ap, subst, option_map}
use Rattle.std.specs.Prelude.{slice_get}
use Rattle.std.proofs.lemmas.List.{length-map}
use Rattle.std.proofs.lemmas.Option.{slice_get_within, slice_get-get_or, slice_get-map, get_or_from_slice_get}
use Rattle.tables_closed.specs.type_layout.declared.definitions.TypeId.{TypeId}
use Rattle.tables_closed.specs.type_layout.declared.definitions.TypeDef.{TypeDef}
use Rattle.tables_closed.specs.type_layout.declared.definitions.TypeDef.TheVariants.{PointerTo}
use Rattle.tables_closed.specs.type_layout.Table.{Table}
use Rattle.tables_closed.specs.unit_interface.declared.keys.Key.{Key}
use Rattle.tables_closed.specs.unit_interface.declared.interfaces.Interface.{Interface}
use Rattle.tables_closed.specs.unit_interface.Merge.{key_of, keys_of, place_of_key, ids_in, new_id, renumbered}
use Rattle.tables_closed.specs.unit_interface.Exports.{in_type, behind, with_type}
use Rattle.tables_closed.specs.unit_interface.Keyed.{IsKeyed}
use Rattle.tables_closed.proofs.unit_interface_proofs.KeyLaws.{AreApart, known_after, id-at, count_of, merged_so}
use Rattle.tables_closed.specs.constants.Bounds.{AreBelow}
use Rattle.tables_closed.proofs.constants.Below.{below_first}
use Rattle.imported_types_agree.specs.consistent_types.Consistency.{between, Stands, IsConsistent, IsConsistentInterface}
use Rattle.imported_types_agree.proofs.consistent_types.Twice.{twice_type}
use Rattle.imported_types_agree.specs.consistent_types.Consistency.{IsWellScopedTable, AreWellScopedHomes}
use Rattle.imported_types_agree.proofs.consistent_types.Keys.{place_at, at_place, after_prefix}
use Rattle.imported_types_agree.proofs.consistent_types.Named.{all_below, all_three, Low, low_type}

-- ---- a table with as many keys as types

pub keys_long : (table : Table) → length table.origins ≡ length table.types → length (keys_of table) ≡ length table.types
keys_long table paired = length-map table.origins (key_of table.units) ∙ paired

pub key_there : (table : Table) (number : ℕ) → number < length (keys_of table) → (key : Key) × (slice_get (keys_of table) number ≡ Some key)
key_there table number low =
    let d : Key = record { unit = []; number = 0 } in
    (get_or (keys_of table) number d, slice_get-get_or (keys_of table) number d low)

pub type_there : (table : Table) (number : ℕ) (key : Key) → length table.origins ≡ length table.types → slice_get (keys_of table) number ≡ Some key
    → (one : TypeDef) × (slice_get table.types number ≡ Some one)
type_there table number key paired at =
    let low : number < length table.types = omega (arith, slice_get_within (keys_of table) number key at, keys_long table paired) in
    let d : TypeDef = PointerTo (record { 0 = 0 }) in
    (get_or table.types number d, slice_get-get_or table.types number d low)

-- a type names types of its table
pub own_named : (table : Table) (number : ℕ) (one : TypeDef) → IsWellScopedTable table → slice_get table.types number ≡ Some one → AreBelow (length table.types) (in_type one)
own_named table number one closed at =
    below_first (length table.types) (in_type one) (behind number one)
    (subst (λ (o : Option TypeDef). AreBelow (length table.types) (with_type number o)) at (closed.types number))

-- ---- ids by way of another table

-- the id that a table's type has in another
pub between_at : (from to : Table) (number : ℕ) (key : Key) (d : TypeId) → slice_get (keys_of from) number ≡ Some key
    → (get_or (between from to) number d).0 ≡ place_of_key (keys_of to) key
between_at from to number key d at =
    let ids : Key → TypeId = λ k. record { 0 = place_of_key (keys_of to) k } in
    let there : slice_get (between from to) number ≡ Some (ids key) = slice_get-map ids (keys_of from) number ∙ ap (λ (o : Option Key). option_map ids o) at in
    ap (λ (ty : TypeId). ty.0) (get_or_from_slice_get (between from to) number (ids key) d there)

pub same_id : (one other : TypeId) → one.0 ≡ other.0 → one ≡ other
same_id one other e = ap (λ (n : ℕ). (let ty : TypeId = record { 0 = n } in ty)) e

module _ (table other home : Table) (keyed : IsKeyed table) (own : IsKeyed other) (closed : IsWellScopedTable home) where
  -- a number of the home that has a type in both tables
  abbrev pub InBoth : ℕ → Type 0
  InBoth x = (x < length home.types) × Low (length other.types) (between home other) x × Low (length table.types) (between home table) x

  -- the id in the other table, and the new id of that: as the id in the table
  pub ids_meet : (ty : TypeId) → InBoth ty.0 → new_id (ids_in table other) (new_id (between home other) ty) ≡ new_id (between home table) ty
  ids_meet ty both =
      let k = key_there home ty.0 (omega (arith, both.0, keys_long home closed.paired)) in
      let key : Key = k.0 in
      let q : TypeId = new_id (between home other) ty in
      let t : TypeId = new_id (between home table) ty in
      let q_is : q.0 ≡ place_of_key (keys_of other) key = between_at home other ty.0 key ty k.1 in
      let t_is : t.0 ≡ place_of_key (keys_of table) key = between_at home table ty.0 key ty k.1 in
      let q_low = both.1 in
      let t_low = both.2 in
      let q_at : slice_get (keys_of other) q.0 ≡ Some key =
      subst (λ (n : ℕ). slice_get (keys_of other) n ≡ Some key) (sym q_is) (at_place (keys_of other) key (omega (arith, q_is, q_low, count_of other own))) in
      let t_at : slice_get (keys_of table) t.0 ≡ Some key =
      subst (λ (n : ℕ). slice_get (keys_of table) n ≡ Some key) (sym t_is) (at_place (keys_of table) key (omega (arith, t_is, t_low, count_of table keyed))) in
      let known : List Key = known_after (keys_of table) (take q.0 (keys_of other)) in
      let so = merged_so table other keyed q.0 (omega (arith, q_low)) in
      let apart : AreApart known = subst AreApart so.keys so.keyed.apart in
      let there : slice_get known t.0 ≡ Some key = after_prefix (keys_of table) (take q.0 (keys_of other)) t.0 key t_at in
      let id : (get_or (ids_in table other) q.0 q).0 ≡ place_of_key known key = id-at (keys_of table) (keys_of other) q.0 key q q_at in
      same_id (new_id (ids_in table other) q) t (id ∙ place_at known key t.0 apart there)

  -- a type by way of the other table, and at once
  pub types_meet : (p q r : ℕ) (first : TypeDef) → AreBelow (length home.types) (in_type first) → AreBelow (length other.types) (in_type (renumbered (between home other) q first))
      → AreBelow (length table.types) (in_type (renumbered (between home table) r first))
      → renumbered (ids_in table other) p (renumbered (between home other) q first) ≡ renumbered (between home table) p first
  types_meet p q r first here there at =
      twice_type InBoth (between home other) (ids_in table other) (between home table) ids_meet p q first
      (all_three (λ x. x < length home.types) (Low (length other.types) (between home other)) (Low (length table.types) (between home table)) (in_type first)
      (all_below (length home.types) (in_type first) here)
      (low_type (length other.types) (between home other) q first there)
      (low_type (length table.types) (between home table) r first at))

-- ---- a type of an interface that is known

-- its type in its home
pub record IsFirst (home : Table) (key : Key) : Type 0 where
  pub place : ℕ
  pub at : slice_get (keys_of home) place ≡ Some key
  pub first : TypeDef
  pub stands : slice_get home.types place ≡ Some first

pub first_of : (home : Table) (key : Key) → IsWellScopedTable home → Stands (keys_of home) key → IsFirst home key
first_of home key closed s =
    let low : s.place < length home.types = omega (arith, slice_get_within (keys_of home) s.place key s.at, keys_long home closed.paired) in
    let d : TypeDef = PointerTo (record { 0 = 0 }) in
    record { place = s.place; at = s.at; first = get_or home.types s.place d; stands = slice_get-get_or home.types s.place d low }

-- as it stands in a table
pub record IsKnownSo (ids : List TypeId) (old one : TypeDef) : Type 0 where
  pub unit : ℕ
  pub is : old ≡ renumbered ids unit one

pub known_so : (have : List Interface) → AreWellScopedHomes have → (table : Table) (i : Interface) → IsConsistent have table → IsWellScopedTable table → IsConsistentInterface have i
    → (number place : ℕ) (key : Key) (one old : TypeDef) → slice_get (keys_of i.types) number ≡ Some key → slice_get i.types.types number ≡ Some one
    → slice_get (keys_of table) place ≡ Some key → slice_get table.types place ≡ Some old → IsKnownSo (ids_in table i.types) old one
known_so have homes table i told closed own number place key one old at stands there found =
    let h = own.at_home number key at in
    let at_home = homes key.unit h.home h.is in
    let f = first_of h.home key at_home h.stands in
    let here = own.told.alike number f.place key h.home f.first one at stands h.is f.at f.stands in
    let known = told.alike place f.place key h.home f.first old there found h.is f.at f.stands in
    let other : IsWellScopedTable i.types = record { paired = own.closed.paired; types = own.closed.types } in
    let meets = types_meet table i.types h.home told.keyed own.told.keyed at_home known.unit here.unit known.unit f.first
    (own_named h.home f.place f.first at_home f.stands)
    (subst (λ (t : TypeDef). AreBelow (length i.types.types) (in_type t)) here.is (own_named i.types number one other stands))
    (subst (λ (t : TypeDef). AreBelow (length table.types) (in_type t)) known.is (own_named table place old closed found)) in
    record {
      unit = known.unit;
      is = known.is ∙ sym meets ∙ ap (renumbered (ids_in table i.types) known.unit) (sym here.is);
    }
