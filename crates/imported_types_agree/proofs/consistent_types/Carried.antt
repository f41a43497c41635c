-- Types of a home, by way of one table into another.
use Rattle.std.proofs.Common.{◌≡◌, ◌∙◌, ℕ, ◌<◌, ℤ, List, [], length, Some, refl, arith, sym, subst}
use Rattle.std.specs.Prelude.{slice_get}
use Rattle.tables_closed.specs.type_layout.declared.definitions.TypeId.{TypeId}
use Rattle.tables_closed.specs.type_layout.declared.definitions.Host.TheVariants as host
use Rattle.tables_closed.specs.type_layout.declared.definitions.TypeDef.{TypeDef}
use Rattle.tables_closed.specs.type_layout.declared.definitions.TypeDef.TheVariants.{Ordinal, Str, SetOf, ArrayOf, RecordOf, PointerTo, ObjectOf, Procedural}
use Rattle.tables_closed.specs.type_layout.Table.{Table}
use Rattle.tables_closed.specs.unit_interface.declared.keys.Key.{Key}
use Rattle.tables_closed.specs.unit_interface.Merge.{keys_of, place_of_key, new_id, renumbered}
use Rattle.tables_closed.specs.unit_interface.Exports.{in_type}
use Rattle.tables_closed.proofs.unit_interface_proofs.KeyLaws.{AreApart}
use Rattle.tables_closed.specs.constants.Bounds.{AreBelow}
use Rattle.imported_types_agree.specs.consistent_types.Consistency.{between, IsWellScopedTable}
use Rattle.imported_types_agree.proofs.consistent_types.Twice.{AllOf, twice_type}
use Rattle.imported_types_agree.proofs.consistent_types.Keys.{place_at, at_place}
use Rattle.imported_types_agree.proofs.consistent_types.Named.{all_below, all_two, all_three, Low, Renamed, low_type, named_type}
use Rattle.imported_types_agree.proofs.consistent_types.Known.{keys_long, key_there, between_at, same_id}

-- where ids of one table agree with others on what a type names
pub same_named : (P : ℕ → Type 0) (a c : List TypeId) → ((ty : TypeId) → P ty.0 → new_id a ty ≡ new_id c ty) → (p : ℕ) (one : TypeDef) → AllOf P (in_type one)
    → renumbered a p one ≡ renumbered c p one
same_named P a c same p one all =
    let none : List TypeId = [] in
    sym (twice_type P none a a (λ ty h. refl) p p one all) ∙ twice_type P none a c same p p one all

-- a renumbered type is an ordinal type of an enumeration only where it was one
pub enumeration_was : (ids : List TypeId) (unit : ℕ) (low high : ℤ) (one : TypeDef) → Ordinal host.Enumeration low high ≡ renumbered ids unit one
    → one ≡ Ordinal host.Enumeration low high
enumeration_was ids unit low high (Ordinal h l m) e = sym e
enumeration_was ids unit low high (Str max) e = cc
enumeration_was ids unit low high (SetOf base) e = cc
enumeration_was ids unit low high (ArrayOf index element) e = cc
enumeration_was ids unit low high (RecordOf fields) e = cc
enumeration_was ids unit low high (PointerTo target) e = cc
enumeration_was ids unit low high (ObjectOf parent dynamic fields methods) e = cc
enumeration_was ids unit low high (Procedural header) e = cc

-- Keys of one table stand in another under new ids, those of some types at least.
module _ (home from to : Table) (ids : List TypeId) (Q : ℕ → Type 0) (closed : IsWellScopedTable home) (paired : length from.origins ≡ length from.types) (apart : AreApart (keys_of to))
    (carries : (key : Key) (ty : TypeId) → Q ty.0 → slice_get (keys_of from) ty.0 ≡ Some key → slice_get (keys_of to) (new_id ids ty).0 ≡ Some key) where
  abbrev IsCarried : ℕ → Type 0
  IsCarried x = (x < length home.types) × Low (length from.types) (between home from) x × Renamed Q (between home from) x

  carried_id : (ty : TypeId) → IsCarried ty.0 → new_id ids (new_id (between home from) ty) ≡ new_id (between home to) ty
  carried_id ty h =
      let k = key_there home ty.0 (omega (arith, h.0, keys_long home closed.paired)) in
      let key : Key = k.0 in
      let q : TypeId = new_id (between home from) ty in
      let q_is : q.0 ≡ place_of_key (keys_of from) key = between_at home from ty.0 key ty k.1 in
      let low = h.1 in
      let q_at : slice_get (keys_of from) q.0 ≡ Some key =
      subst (λ (n : ℕ). slice_get (keys_of from) n ≡ Some key) (sym q_is) (at_place (keys_of from) key (omega (arith, q_is, low, keys_long from paired))) in
      let there : slice_get (keys_of to) (new_id ids q).0 ≡ Some key = carries key q h.2 q_at in
      let t_is : (new_id (between home to) ty).0 ≡ place_of_key (keys_of to) key = between_at home to ty.0 key ty k.1 in
      same_id (new_id ids q) (new_id (between home to) ty) (sym (t_is ∙ place_at (keys_of to) key (new_id ids q).0 apart there))

  pub carried : (p q : ℕ) (first : TypeDef) → AreBelow (length home.types) (in_type first) → AreBelow (length from.types) (in_type (renumbered (between home from) q first))
      → AllOf Q (in_type (renumbered (between home from) q first)) → renumbered ids p (renumbered (between home from) q first) ≡ renumbered (between home to) p first
  carried p q first here there all =
      twice_type IsCarried (between home from) ids (between home to) carried_id p q first
      (all_three (λ x. x < length home.types) (Low (length from.types) (between home from)) (Renamed Q (between home from)) (in_type first)
      (all_below (length home.types) (in_type first) here) (low_type (length from.types) (between home from) q first there) (named_type Q (between home from) q first all))

-- keys that stay at their places
module _ (home from to : Table) (closed : IsWellScopedTable home) (paired : length from.origins ≡ length from.types) (apart : AreApart (keys_of to))
    (stays : (number : ℕ) (key : Key) → slice_get (keys_of from) number ≡ Some key → slice_get (keys_of to) number ≡ Some key) where
  abbrev none : List TypeId
  none = []

  abbrev Any : ℕ → Type 0
  Any x = Unit {0}

  abbrev IsBoth : ℕ → Type 0
  IsBoth x = (x < length home.types) × Low (length from.types) (between home from) x

  pub stays_same : (q : ℕ) (first : TypeDef) → AreBelow (length home.types) (in_type first) → AreBelow (length from.types) (in_type (renumbered (between home from) q first))
      → renumbered (between home from) q first ≡ renumbered (between home to) q first
  stays_same q first here there =
      same_named IsBoth (between home from) (between home to)
      (λ ty h. carried_id home from to none Any closed paired apart (λ key ty q e. stays ty.0 key e) ty (h.0, h.1, tt)) q first
      (all_two (λ x. x < length home.types) (Low (length from.types) (between home from)) (in_type first)
      (all_below (length home.types) (in_type first) here) (low_type (length from.types) (between home from) q first there))
