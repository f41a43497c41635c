-- A told interface is faithful in a told scope.
use Rattle.std.proofs.Common.{◌≡◌, ◌∙◌, ℕ, zero, suc, ◌+◌, ◌<◌, ◌≤◌, Bool, true, false, not, cond, List, length, take, Option, Some, get_or, refl, arith, ap, subst}
use Rattle.std.specs.Prelude.{slice_get}
use Rattle.std.proofs.lemmas.Bool.{lt-ltb}
use Rattle.std.proofs.lemmas.Option.{slice_get_within}
use Rattle.units_well_formed.specs.type_layout.declared.definitions.TypeId.{TypeId}
use Rattle.units_well_formed.specs.type_layout.declared.definitions.Host.TheVariants as host
use Rattle.units_well_formed.specs.type_layout.declared.definitions.TypeDef.{TypeDef}
use Rattle.units_well_formed.specs.type_layout.declared.definitions.TypeDef.TheVariants as type
use Rattle.units_well_formed.specs.type_layout.Table.{Table}
use Rattle.units_well_formed.specs.typed_tree.declared.units.Unit as typed
use Rattle.units_well_formed.specs.scopes.Environment.{Environment}
use Rattle.units_well_formed.specs.scopes.Predeclared.{type_table, type_id}
use Rattle.units_well_formed.specs.unit_interface.declared.keys.Key.{Key}
use Rattle.units_well_formed.specs.unit_interface.declared.interfaces.Interface.{Interface}
use Rattle.units_well_formed.specs.unit_interface.Merge.{key_of, keys_of, ids_in, new_id, is_new, with_listed, merged, with_types}
use Rattle.units_well_formed.specs.unit_interface.Exports.{with_type, is_in, kept_before, new_ids, IsInterfaceOf}
use Rattle.units_well_formed.specs.unit_interface.Keyed.{IsKeyed}
use Rattle.units_well_formed.proofs.unit_interface_proofs.KeyLaws.{AreApart, known_after, id-at, key_at, count_of, merged_so}
use Rattle.units_well_formed.specs.tables_closed.constants.Bounds.{AreBelow}
use Rattle.units_well_formed.proofs.imported_types_agree_proofs.well_scoped.Merging.{longer}
use Rattle.units_well_formed.specs.imported_types_agree.consistent_types.Consistency.{Stands, IsWellScopedTable, AreWellScopedHomes, IsConsistentInterface}
use Rattle.units_well_formed.proofs.imported_types_agree_proofs.consistent_types.Keys.{place_at, after_prefix}
use Rattle.units_well_formed.proofs.imported_types_agree_proofs.consistent_types.Known.{key_there, own_named, same_id}
use Rattle.units_well_formed.proofs.imported_types_agree_proofs.consistent_types.Merged.{next_beside}
use Rattle.units_well_formed.proofs.imported_types_agree_proofs.consistent_types.Agreed.{known_alike}
use Rattle.units_well_formed.proofs.imported_types_agree_proofs.consistent_types.Shown.{kept_key}
use Rattle.units_well_formed.specs.imported_types_agree.compatible_types.Fits.{IsConsistentScope}
use Rattle.units_well_formed.proofs.imported_types_agree_proofs.compatible_types.Uses.{closed_table}
use Rattle.programs_well_formed.specs.imported_interfaces.Below.{twice, IsWhole, AreFixed, IsKnownOf, AreOwnConstants, ShownConstants}
use Rattle.programs_well_formed.proofs.imported_interfaces.Below.{new_id_is}
use Rattle.programs_well_formed.specs.imported_interfaces.Faithful.{IsFaithful}

-- the types of a table stand at their places in another
abbrev pub Stay : Table → Table → Type 0
Stay table later = (place : ℕ) (key : Key) → slice_get (keys_of table) place ≡ Some key → slice_get (keys_of later) place ≡ Some key

-- SYSTEM's types do
abbrev pub HasSystem : Table → Type 0
HasSystem table = Stay type_table table

-- The unit that shows an interface: its table is closed and begins with SYSTEM's types, and the constants that it shows are values of
-- its types.
pub record IsOfUnit (i : Interface) : Type 0 where
  pub unit : typed.Unit
  pub shows : IsInterfaceOf unit i
  pub keyed : IsKeyed unit.types
  pub closed : IsWellScopedTable unit.types
  pub system : HasSystem unit.types
  pub constants : AreOwnConstants unit.types.types unit.items

whole_of : (table : Table) → IsWellScopedTable table → IsWhole table.types
whole_of table closed = record {
  based = λ ty base at. (own_named table ty.0 (type.SetOf base) closed at).0;
  followed = λ number low high at.
      let all : AreBelow (length table.types) (with_type number (Some (type.Ordinal host.Enumeration low high))) =
      subst (λ (o : Option TypeDef). AreBelow (length table.types) (with_type number o)) at (closed.types number) in
      all.0;
}

unless_true : (b : Bool) → (b ≡ true → ⊥) → b ≡ false
unless_true true none = absurd (none refl)
unless_true false none = refl

-- the id of a type whose key a table knows
known_id : (table other : Table) → IsKeyed table → (number place : ℕ) (key : Key) (d : TypeId) → number ≤ length other.types → slice_get (keys_of other) number ≡ Some key
    → slice_get (keys_of table) place ≡ Some key → (get_or (ids_in table other) number d).0 ≡ place
known_id table other keyed number place key d low at there =
    let so = merged_so table other keyed number low in
    let known : List Key = known_after (keys_of table) (take number (keys_of other)) in
    let apart : AreApart known = subst AreApart so.keys so.keyed.apart in
    id-at (keys_of table) (keys_of other) number key d at ∙ place_at known key place apart (after_prefix (keys_of table) (take number (keys_of other)) place key there)

module _ (have : List Interface) (homes : AreWellScopedHomes have) (g : Environment) (h : IsConsistentScope have g) (i : Interface) (own : IsConsistentInterface have i) where
  abbrev ids : List TypeId
  ids = ids_in g.types i.types

  low_key : (number : ℕ) (key : Key) → slice_get (keys_of i.types) number ≡ Some key → number < length i.types.types
  low_key number key at = omega (arith, slice_get_within (keys_of i.types) number key at, count_of i.types own.told.keyed)

  -- a type whose key the scope knows isn't new there
  not_new : (number : ℕ) (key : Key) → slice_get (keys_of i.types) number ≡ Some key → Stands (keys_of g.types) key → is_new ids (merged i.types ids g.types number) number ≡ true → ⊥
  not_new number key at s new =
      let low = low_key number key at in
      let this : TypeId = record { 0 = number } in
      let now : Table = merged i.types ids g.types number in
      let id : (get_or ids number this).0 ≡ s.place = known_id g.types i.types h.told.keyed number s.place key this (omega (arith, low)) at s.at in
      let within : s.place < length g.types.types = omega (arith, slice_get_within (keys_of g.types) s.place key s.at, count_of g.types h.told.keyed) in
      let grown : length g.types.types ≤ length (merged i.types ids g.types (0 + number)).types = longer g.types i.types h.complete.ordered.paired own.closed.paired 0 number (omega (arith, low)) in
      let more : length g.types.types ≤ length now.types = subst (λ (n : ℕ). length g.types.types ≤ length (merged i.types ids g.types n).types) (let e : 0 + number ≡ number = omega arith in e) grown in
      let old : is_new ids now number ≡ false = ap not (lt-ltb (get_or ids number this).0 (length now.types) (omega (arith, id, within, more))) in
      let bad : ⊥ = cc in
      bad

  -- so the scope stays as it is where it knows them all
  module _ (all : (number : ℕ) (key : Key) → slice_get (keys_of i.types) number ≡ Some key → Stands (keys_of g.types) key) where
    first_same : (number : ℕ) → number ≤ length i.types.types → merged i.types ids g.types number ≡ g.types
    first_same zero low = refl
    first_same (suc number) low =
        let k = key_there i.types number (omega (arith, low, count_of i.types own.told.keyed)) in
        let now : Table = merged i.types ids g.types number in
        let old : is_new ids now number ≡ false = unless_true (is_new ids now number) (λ new. not_new number k.0 k.1 (all number k.0 k.1) new) in
        ap (λ (b : Bool). cond b (with_listed ids now i.types.units (slice_get i.types.types number) (slice_get i.types.origins number)) now) old
        ∙ first_same number (omega (arith, low))

    pub types_same : with_types g.types i.types ≡ g.types
    types_same = first_same (length i.types.types) (omega arith)

  module _ (unit : typed.Unit) (shows : IsInterfaceOf unit i) where
    abbrev pub kids : List TypeId
    kids = new_ids shows.reached (length unit.types.types)

    -- a type of the unit that is shown has its own id, where the scope has it at its place
    pub kept_id : IsKeyed unit.types → (number : ℕ) (key : Key) → slice_get (keys_of unit.types) number ≡ Some key → slice_get (keys_of g.types) number ≡ Some key → is_in shows.reached number ≡ true
        → twice ids kids (type_id number) ≡ type_id number
    kept_id keyed number key there here reached =
        let within : number < length unit.types.types = omega (arith, slice_get_within (keys_of unit.types) number key there, count_of unit.types keyed) in
        let q : TypeId = new_id kids (type_id number) in
        let at : ℕ = kept_before shows.reached number in
        let place : q.0 ≡ at = new_id_is shows.reached (length unit.types.types) number (type_id number) within in
        let kept : slice_get (keys_of i.types) at ≡ Some key = kept_key unit i shows keyed number key reached there in
        let id : (get_or ids at q).0 ≡ number =
        known_id g.types i.types h.told.keyed at number key q (let l = low_key at key kept in omega (arith, l)) kept here in
        same_id (new_id ids q) (type_id number) (ap (λ (m : ℕ). (get_or ids m q).0) place ∙ id)

  module _ (system : HasSystem g.types) (u : IsOfUnit i) where
    -- a predeclared type that is reached has its own id
    fixed_at : (n : ℕ) → n < 11 → is_in u.shows.reached n ≡ true → twice ids (kids u.unit u.shows) (type_id n) ≡ type_id n
    fixed_at n low reached =
        let eleven : length (keys_of type_table) ≡ 11 = refl in
        let k = key_there type_table n (omega (arith, low, eleven)) in
        kept_id u.unit u.shows u.keyed n k.0 (u.system n k.0 k.1) (system n k.0 k.1) reached

    fixed : AreFixed u.shows.reached ids (kids u.unit u.shows)
    fixed = record {
      byte = λ reached. fixed_at 1 (omega arith) reached;
      chars = λ reached. fixed_at 5 (omega arith) reached;
      truths = λ reached. fixed_at 6 (omega arith) reached;
    }

    known_of : IsKnownOf u.unit i u.shows.reached g.types
    known_of = record {
      alike = λ number one d at old.
          let k = known_alike have homes g.types i h.told (closed_table g h.complete) own number one d at old in
          record { unit = k.unit; at = k.at };
      beside = next_beside have homes g.types i h.told (closed_table g h.complete) own;
      fixed = fixed;
    }

    -- what is shown of another unit than the one that is read, whose own types stand in the scope
    pub faithful : ShownConstants → (name : List ℕ) → (i.name ≡ name → ⊥) → ((number : ℕ) (key : Key) → slice_get (keys_of i.types) number ≡ Some key → key.unit ≡ name → Stands (keys_of g.types) key)
        → IsFaithful name g i
    faithful shown name other stands = record {
      other = other;
      foreign = λ number origin from new is.
          (let key : Key = key_of i.types.units origin in
          not_new number key (key_at i.types number origin from) (stands number key (key_at i.types number origin from) is) new);
      constants = shown u.unit i g.types u.shows u.closed.paired own.closed.paired h.complete.ordered.paired (whole_of u.unit.types u.closed) known_of u.constants;
    }
