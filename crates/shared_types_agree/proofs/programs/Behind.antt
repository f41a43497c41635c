-- A table behind what a unit declares: what the unit adds is numbered on, and each object type has its methods of the unit.
use Rattle.std.proofs.Common.{◌≡◌, ◌∙◌, inl, inr, ℕ, ◌+◌, ◌<◌, ℤ, Bool, true, false, List, [], ◌∷◌, ◌++◌, length, length-append, Option, Some, refl, sym, ap, arith, append-nil, append_assoc}
use Rattle.std.specs.Prelude.{slice_get}
use Rattle.unit_references.specs.type_layout.declared.definitions.TypeDef.{TypeDef}
use Rattle.unit_references.specs.type_layout.declared.definitions.TypeDef.TheVariants.{Ordinal}
use Rattle.unit_references.specs.type_layout.declared.definitions.Host.TheVariants as host
use Rattle.unit_references.specs.type_layout.Table.{Table, IsAddable}
use Rattle.units_well_formed.specs.unit_interface.declared.keys.Key.{Key}
use Rattle.units_well_formed.specs.unit_interface.Merge.{keys_of}
use Rattle.units_well_formed.specs.unit_interface.Misfits.{is_enumeration}
use Rattle.units_well_formed.specs.unit_interface.Keyed.{IsKeyed}
use Rattle.units_well_formed.proofs.unit_interface_proofs.KeyLaws.{keyed_with, key_place}
use Rattle.units_well_formed.specs.declaration_checker.type_denoters.Additions.{count_of}
use Rattle.units_well_formed.specs.imported_types_agree.consistent_types.Consistency.{next_key, AreFollowed}
use Rattle.units_well_formed.specs.imported_types_agree.consistent_types.Laws.{IsWithDeclared}
use Rattle.units_well_formed.proofs.imported_types_agree_proofs.consistent_types.Keys.{not_found}
use Rattle.shared_types_agree.specs.programs.Consistency.{AreOwned}
use Rattle.shared_types_agree.specs.programs.Methods.{HasDeclaredMethods}
use Rattle.shared_types_agree.proofs.programs.Counts.{count_next}
use Rattle.shared_types_agree.proofs.programs.Keeping.{with_own, Stays}
use Rattle.shared_types_agree.proofs.programs.Owned.{all_keys, key_is, key_stays, key_last, type_front, type_last, owned_with}

-- the unit's own keys have numbers below that of the next
abbrev pub AreNumbered : List ℕ → Table → Type 0
AreNumbered name table = (place : ℕ) (key : Key) → slice_get (keys_of table) place ≡ Some key → key.unit ≡ name → key.number < count_of table name

-- Types of the unit behind those of another table, each with its own key; what is in the table is the unit's that declares it.
pub record IsLonger (name : List ℕ) (base table : Table) : Type 0 where
  pub keyed : IsKeyed table
  pub types : List TypeDef
  pub more_types : table.types ≡ base.types ++ types
  pub keys : List Key
  pub more_keys : keys_of table ≡ keys_of base ++ keys
  pub own : (number : ℕ) (key : Key) → slice_get keys number ≡ Some key → key.unit ≡ name
  pub numbered : AreNumbered name table
  pub owned : AreOwned table

-- and behind an enumeration stands its set
pub record IsOwnBehind (name : List ℕ) (base table : Table) : Type 0 where
  pub longer : IsLonger name base table
  pub followed : AreFollowed table

pub is_declared : (name : List ℕ) (base table : Table) → IsOwnBehind name base table → IsWithDeclared name base table
is_declared name base table h =
    let l = h.longer in
    record { keyed = l.keyed; followed = h.followed; types = l.types; more_types = l.more_types; keys = l.keys; more_keys = l.more_keys; own = l.own }

pub behind_itself : (name : List ℕ) (table : Table) → IsKeyed table → AreFollowed table → AreNumbered name table → AreOwned table → IsOwnBehind name table table
behind_itself name table keyed followed numbered owned = record {
  longer = record {
    keyed = keyed;
    types = [];
    more_types = sym (append-nil table.types);
    keys = [];
    more_keys = sym (append-nil (keys_of table));
    own = λ number key at. absurd (nothing number key at);
    numbered = numbered;
    owned = owned;
  };
  followed = followed;
}
  where
    nothing : (number : ℕ) (key : Key) → slice_get [] number ≡ Some key → ⊥
    nothing number key at = cc

-- ---- one type more

module _ (name : List ℕ) (table : Table) (keyed : IsKeyed table) (numbered : AreNumbered name table) (one : TypeDef) where
  abbrev count : ℕ
  count = count_of table name

  abbrev key : Key
  key = record { unit = name; number = count }

  more_keyed : IsKeyed (with_own name table one)
  more_keyed =
      keyed_with table name count one keyed
      (not_found (keys_of table) key (λ place at. (let low = numbered place key at refl in omega (arith, low))))

  more_numbered : AreNumbered name (with_own name table one)
  more_numbered place other at mine =
      let more = count_next table name count one in
      elim (key_is table keyed name count one place other at) [
        | inl old ↦ (let low = numbered place other old mine in omega (arith, low, more))
        | inr last ↦ (let same : count ≡ other.number = ap (λ (k : Key). k.number) last.1 in omega (arith, same, more))
      ]

-- ---- what is behind a table stays so

not_both : (b : Bool) → b ≡ true → b ≡ false → ⊥
not_both b here absent = cc

module _ (name : List ℕ) (base : Table) where
  add : (table : Table) (one : TypeDef) → IsAddable table name one → IsLonger name base table → IsLonger name base (with_own name table one)
  add table one fits h =
      let k = key name table h.keyed h.numbered one in
      record {
        keyed = more_keyed name table h.keyed h.numbered one;
        types = h.types ++ one ∷ [];
        more_types = ap (λ (l : List TypeDef). l ++ one ∷ []) h.more_types ∙ append_assoc base.types h.types (one ∷ []);
        keys = h.keys ++ k ∷ [];
        more_keys = all_keys table h.keyed name (count_of table name) one ∙ ap (λ (l : List Key). l ++ k ∷ []) h.more_keys ∙ append_assoc (keys_of base) h.keys (k ∷ []);
        own = λ number other at. elim (key_place h.keys k number other at) [ inl old ↦ h.own number other old | inr last ↦ sym (ap (λ (x : Key). x.unit) last.1) ];
        numbered = more_numbered name table h.keyed h.numbered one;
        owned = owned_with table h.keyed name (count_of table name) one fits.methods h.owned;
      }

  -- the further type is no enumeration, and what stands behind those that were there goes on to do so
  followed_on : (table : Table) (keyed : IsKeyed table) (numbered : AreNumbered name table) (one : TypeDef) → is_enumeration (Some one) ≡ false
      → ((place : ℕ) (low high : ℤ) (other : Key) → slice_get table.types place ≡ Some (Ordinal host.Enumeration low high) → slice_get (keys_of table) place ≡ Some other
      → slice_get (keys_of (with_own name table one)) (place + 1) ≡ Some (next_key other)) → AreFollowed (with_own name table one)
  followed_on table keyed numbered one plain old place low high other stands at =
      elim (key_is table keyed name (count_of table name) one place other at) [
        | inl there ↦ old place low high other (type_front table keyed name (count_of table name) one place other (Ordinal host.Enumeration low high) there stands) there
        | inr last ↦
            let is : one ≡ Ordinal host.Enumeration low high = type_last table keyed name (count_of table name) one place (Ordinal host.Enumeration low high) last.0 stands in
            absurd (not_both (is_enumeration (Some one)) (ap (λ (t : TypeDef). is_enumeration (Some t)) is) plain)
      ]

  add_one : (table : Table) (one : TypeDef) → is_enumeration (Some one) ≡ false → HasDeclaredMethods one → IsAddable table name one → IsOwnBehind name base table → IsOwnBehind name base (with_own name table one)
  add_one table one plain methods fits h =
      let l = h.longer in
      record {
        longer = add table one fits l;
        followed = followed_on table l.keyed l.numbered one plain
            (λ place low high other stands at. key_stays table l.keyed name (count_of table name) one (place + 1) (next_key other) (h.followed place low high other stands at));
      }

  -- what stands in the table with the first type is followed in the table with both
  first_followed : (table : Table) (one other : TypeDef) → IsOwnBehind name base table → (l : IsLonger name base (with_own name table one)) (place : ℕ) (low high : ℤ) (key : Key)
      → slice_get (with_own name table one).types place ≡ Some (Ordinal host.Enumeration low high) → slice_get (keys_of (with_own name table one)) place ≡ Some key
      → slice_get (keys_of (with_own name (with_own name table one) other)) (place + 1) ≡ Some (next_key key)
  first_followed table one other h l place low high key stands at =
      let was = h.longer in
      let middle = with_own name table one in
      elim (key_is table was.keyed name (count_of table name) one place key at) [
        | inl there ↦
            key_stays middle l.keyed name (count_of middle name) other (place + 1) (next_key key)
            (key_stays table was.keyed name (count_of table name) one (place + 1) (next_key key)
            (h.followed place low high key (type_front table was.keyed name (count_of table name) one place key (Ordinal host.Enumeration low high) there stands) there))
        | inr last ↦
            let long : length (keys_of middle) ≡ length (keys_of table) + 1 = ap (λ (ks : List Key). length ks) (all_keys table was.keyed name (count_of table name) one) ∙ length-append (keys_of table) (let k : Key = record { unit = name; number = count_of table name } in k ∷ []) in
            let spot : place + 1 ≡ length (keys_of middle) = omega (arith, last.0, long) in
            let next : count_of middle name ≡ count_of table name + 1 = count_next table name (count_of table name) one in
            ap (λ (n : ℕ). slice_get (keys_of (with_own name middle other)) n) spot
            ∙ key_last middle l.keyed name (count_of middle name) other
            ∙ ap (λ (n : ℕ). (let k : Option Key = Some (record { unit = name; number = n }) in k)) next
            ∙ ap (λ (k : Key). Some (next_key k)) last.1
      ]

  add_two : (table : Table) (one other : TypeDef) → is_enumeration (Some other) ≡ false → HasDeclaredMethods one → HasDeclaredMethods other → IsAddable table name one
      → IsAddable (with_own name table one) name other → IsOwnBehind name base table → IsOwnBehind name base (with_own name (with_own name table one) other)
  add_two table one other plain methods last fits behind h =
      let middle = with_own name table one in
      let l = add table one fits h.longer in
      record {
        longer = add middle other behind l;
        followed = followed_on middle l.keyed l.numbered other plain (first_followed table one other h l);
      }

  pub behind_stays : Stays name (IsOwnBehind name base)
  behind_stays = record { one = add_one; two = add_two }
