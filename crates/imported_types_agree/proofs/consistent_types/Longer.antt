-- A told table with types that a unit declares.
use Rattle.std.proofs.Common.{◌≡◌, ◌∙◌, ℕ, zero, suc, ◌<◌, ◌⊎◌, inl, inr, List, [], ◌∷◌, ◌++◌, length, Some, arith, sym, ap, subst}
use Rattle.std.specs.Prelude.{slice_get}
use Rattle.std.proofs.lemmas.Option.{slice_get_within}
use Rattle.tables_closed.specs.type_layout.declared.definitions.TypeDef.{TypeDef}
use Rattle.tables_closed.specs.type_layout.Table.{Table}
use Rattle.tables_closed.proofs.type_layout_proofs.Local.{slice_get-append}
use Rattle.tables_closed.specs.unit_interface.declared.keys.Key.{Key}
use Rattle.tables_closed.specs.unit_interface.declared.interfaces.Interface.{Interface}
use Rattle.tables_closed.specs.unit_interface.Merge.{keys_of, renumbered}
use Rattle.tables_closed.specs.unit_interface.Exports.{in_type}
use Rattle.tables_closed.specs.unit_interface.Keyed.{IsKeyed}
use Rattle.tables_closed.specs.constants.Bounds.{AreBelow}
use Rattle.imported_types_agree.specs.consistent_types.Consistency.{between, AreAtHome, next_key, AreFollowed, IsOther, AreOthersAlike, AreOthersFronted, IsWellScopedTable, AreWellScopedHomes, IsConsistent, IsConsistentWithOthers}
use Rattle.imported_types_agree.specs.consistent_types.Laws.{IsWithDeclared}
use Rattle.imported_types_agree.proofs.consistent_types.Known.{keys_long, own_named}
use Rattle.imported_types_agree.proofs.consistent_types.Carried.{stays_same}

-- a told table, of whatever unit
pub told_all : (have : List Interface) (name : List ℕ) (table : Table) → IsConsistent have table → AreAtHome have table → IsConsistentWithOthers have name table
told_all have name table h home = record {
  keyed = h.keyed;
  alike = λ number place key from first one other at stands is there f. h.alike number place key from first one at stands is there f;
  followed = h.followed;
  fronted = λ number place key from low high other at is there f. h.fronted number place key from low high at is there f;
  at_home = λ number key other at. home number key at;
}

-- what stands in one list behind another
pub in_parts : {A : Type 0} → (xs ys : List A) (number : ℕ) (x : A) → slice_get (xs ++ ys) number ≡ Some x → (slice_get xs number ≡ Some x) ⊎ ((place : ℕ) × (slice_get ys place ≡ Some x))
in_parts [] ys number x at = inr (number, at)
in_parts (y ∷ xs) ys zero x at = inl at
in_parts (y ∷ xs) ys (suc number) x at = in_parts xs ys number x at

module _ (have : List Interface) (homes : AreWellScopedHomes have) (name : List ℕ) (table longer : Table) (told : IsConsistent have table) (home : AreAtHome have table) (closed : IsWellScopedTable table)
    (keyed : IsKeyed longer) (followed : AreFollowed longer) (types : List TypeDef) (more_types : longer.types ≡ table.types ++ types) (keys : List Key) (more_keys : keys_of longer ≡ keys_of table ++ keys)
    (own : (number : ℕ) (key : Key) → slice_get keys number ≡ Some key → key.unit ≡ name) where
  stays : (number : ℕ) (key : Key) → slice_get (keys_of table) number ≡ Some key → slice_get (keys_of longer) number ≡ Some key
  stays number key at =
      ap (λ (ks : List Key). slice_get ks number) more_keys ∙ slice_get-append (keys_of table) keys number (slice_get_within (keys_of table) number key at) ∙ at

  -- a type of another unit is one of the table
  other_in : (number : ℕ) (key : Key) → IsOther name key → slice_get (keys_of longer) number ≡ Some key → slice_get (keys_of table) number ≡ Some key
  other_in number key other at =
      elim (in_parts (keys_of table) keys number key (ap (λ (ks : List Key). slice_get ks number) (sym more_keys) ∙ at)) [
        | inl old ↦ old
        | inr new ↦ absurd (other (own new.0 key new.1))
      ]

  alike : AreOthersAlike have name longer
  alike number place key from first one other at stands is there f =
      let old = other_in number key other at in
      let low : number < length table.types = omega (arith, slice_get_within (keys_of table) number key old, keys_long table closed.paired) in
      let here : slice_get table.types number ≡ Some one =
      sym (slice_get-append table.types types number low) ∙ ap (λ (ts : List TypeDef). slice_get ts number) (sym more_types) ∙ stands in
      let a = told.alike number place key from first one old here is there f in
      let named : AreBelow (length table.types) (in_type (renumbered (between from table) a.unit first)) =
      subst (λ (t : TypeDef). AreBelow (length table.types) (in_type t)) a.is (own_named table number one closed here) in
      record {
        unit = a.unit;
        is = a.is ∙ stays_same from table longer (homes key.unit from is) closed.paired keyed.apart stays a.unit first (own_named from place first (homes key.unit from is) f) named;
      }

  fronted : AreOthersFronted have name longer
  fronted number place key from low high other at is there f =
      let s = told.fronted number place key from low high (other_in number (next_key key) other at) is there f in
      record { place = s.place; at = stays s.place key s.at }

  pub told_longer : IsConsistentWithOthers have name longer
  told_longer = record {
    keyed = keyed;
    alike = alike;
    followed = followed;
    fronted = fronted;
    at_home = λ number key other at. home number key (other_in number key other at);
  }

pub declared_told : (have : List Interface) → AreWellScopedHomes have → (name : List ℕ) (table longer : Table) → IsConsistent have table → AreAtHome have table → IsWellScopedTable table
    → IsWithDeclared name table longer → IsConsistentWithOthers have name longer
declared_told have homes name table longer told home closed h =
    told_longer have homes name table longer told home closed h.keyed h.followed h.types h.more_types h.keys h.more_keys h.own
