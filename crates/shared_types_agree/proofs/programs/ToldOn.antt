-- The table of a unit that is told but for the unit's own types stays so with further types that the unit declares.
use Rattle.std.proofs.Common.{◌≡◌, ◌∙◌, inl, inr, ℕ, ◌<◌, List, length, Some, arith, sym, ap, subst}
use Rattle.std.specs.Prelude.{slice_get}
use Rattle.std.proofs.lemmas.Option.{slice_get_within}
use Rattle.unit_references.specs.type_layout.declared.definitions.TypeDef.{TypeDef}
use Rattle.unit_references.specs.type_layout.Table.{Table}
use Rattle.unit_references.proofs.type_layout_proofs.Local.{slice_get-append}
use Rattle.units_well_formed.specs.unit_interface.declared.keys.Key.{Key}
use Rattle.units_well_formed.specs.unit_interface.declared.interfaces.Interface.{Interface}
use Rattle.units_well_formed.specs.unit_interface.Merge.{keys_of, renumbered}
use Rattle.units_well_formed.specs.unit_interface.Exports.{in_type}
use Rattle.units_well_formed.specs.tables_closed.constants.Bounds.{AreBelow}
use Rattle.units_well_formed.specs.imported_types_agree.consistent_types.Consistency.{between, next_key, IsOther, AreOthersAlike, AreOthersFronted, IsWellScopedTable, AreWellScopedHomes, IsConsistentWithOthers}
use Rattle.units_well_formed.specs.imported_types_agree.consistent_types.Laws.{IsWithDeclared}
use Rattle.units_well_formed.proofs.imported_types_agree_proofs.consistent_types.Known.{keys_long, own_named}
use Rattle.units_well_formed.proofs.imported_types_agree_proofs.consistent_types.Carried.{stays_same}
use Rattle.units_well_formed.proofs.imported_types_agree_proofs.consistent_types.Longer.{in_parts}

module _ (have : List Interface) (homes : AreWellScopedHomes have) (name : List ℕ) (table longer : Table) (told : IsConsistentWithOthers have name table) (closed : IsWellScopedTable table) (h : IsWithDeclared name table longer) where
  pub stays : (number : ℕ) (key : Key) → slice_get (keys_of table) number ≡ Some key → slice_get (keys_of longer) number ≡ Some key
  stays number key at =
      ap (λ (ks : List Key). slice_get ks number) h.more_keys ∙ slice_get-append (keys_of table) h.keys number (slice_get_within (keys_of table) number key at) ∙ at

  -- a type of another unit is one of the table
  other_in : (number : ℕ) (key : Key) → IsOther name key → slice_get (keys_of longer) number ≡ Some key → slice_get (keys_of table) number ≡ Some key
  other_in number key other at =
      elim (in_parts (keys_of table) h.keys number key (ap (λ (ks : List Key). slice_get ks number) (sym h.more_keys) ∙ at)) [
        | inl old ↦ old
        | inr new ↦ absurd (other (h.own new.0 key new.1))
      ]

  alike : AreOthersAlike have name longer
  alike number place key from first one other at stands is there f =
      let old = other_in number key other at in
      let low : number < length table.types = omega (arith, slice_get_within (keys_of table) number key old, keys_long table closed.paired) in
      let here : slice_get table.types number ≡ Some one =
      sym (slice_get-append table.types h.types number low) ∙ ap (λ (ts : List TypeDef). slice_get ts number) (sym h.more_types) ∙ stands in
      let a = told.alike number place key from first one other old here is there f in
      let named : AreBelow (length table.types) (in_type (renumbered (between from table) a.unit first)) =
      subst (λ (t : TypeDef). AreBelow (length table.types) (in_type t)) a.is (own_named table number one closed here) in
      record {
        unit = a.unit;
        is = a.is ∙ stays_same from table longer (homes key.unit from is) closed.paired h.keyed.apart stays a.unit first (own_named from place first (homes key.unit from is) f) named;
      }

  fronted : AreOthersFronted have name longer
  fronted number place key from low high other at is there f =
      let s = told.fronted number place key from low high other (other_in number (next_key key) other at) is there f in
      record { place = s.place; at = stays s.place key s.at }

  pub told_on : IsConsistentWithOthers have name longer
  told_on = record {
    keyed = h.keyed;
    alike = alike;
    followed = h.followed;
    fronted = fronted;
    at_home = λ number key other at. told.at_home number key other (other_in number key other at);
  }
