-- Tables in which each object type has its methods of the unit that declares it: with further types, of whatever units.
use Rattle.std.proofs.Common.{◌≡◌, ◌∙◌, ◌⊎◌, inl, inr, ℕ, zero, suc, ◌<◌, ◌≤◌, Bool, true, false, cond, List, [], ◌∷◌, ◌++◌, length, Option, Some, None, get_or, refl, sym, ap, subst, arith}
use Rattle.std.specs.Prelude.{slice_get}
use Rattle.std.proofs.lemmas.Option.{same_Some, slice_get_within, slice_get-get_or}
use Rattle.unit_references.specs.type_layout.declared.definitions.TypeId.{TypeId}
use Rattle.unit_references.specs.type_layout.declared.definitions.Origin.{Origin}
use Rattle.unit_references.specs.type_layout.declared.definitions.TypeDef.{TypeDef}
use Rattle.unit_references.specs.type_layout.Table.{Table, HasMethodsOf, place_of, with_unit, with_type}
use Rattle.unit_references.proofs.type_layout_proofs.Local.{slice_get-append}
use Rattle.units_well_formed.specs.unit_interface.declared.keys.Key.{Key}
use Rattle.units_well_formed.specs.unit_interface.Merge.{key_of, keys_of, ids_in, added_type, with_listed, is_new, merged, with_types}
use Rattle.units_well_formed.specs.unit_interface.Keyed.{IsKeyed}
use Rattle.units_well_formed.proofs.unit_interface_proofs.KeyLaws as keys
use Rattle.units_well_formed.proofs.unit_interface_proofs.KeyLaws.{keys_with, key_place, is_added, merged_so}
use Rattle.units_well_formed.proofs.unit_interface_proofs.KeptLaws.{slice_get-seam}
use Rattle.units_well_formed.proofs.unit_interface_proofs.FittingLaws.{has_methods}
use Rattle.shared_types_agree.specs.programs.Consistency.{IsOwned, AreOwned}

some_type : (one other : TypeDef) → Some one ≡ Some other → one ≡ other
some_type one other same = cc

-- ---- one type more

module _ (table : Table) (keyed : IsKeyed table) (unit : List ℕ) (number : ℕ) (one : TypeDef) where
  abbrev pub last_key : Key
  last_key = record { unit = unit; number = number }

  abbrev longer : Table
  longer = with_type table unit number one

  pub all_keys : keys_of longer ≡ keys_of table ++ last_key ∷ []
  all_keys = keys_with table unit number one keyed.known

  -- a key is one of the table, or that of the further type
  pub key_is : (place : ℕ) (other : Key) → slice_get (keys_of longer) place ≡ Some other → (slice_get (keys_of table) place ≡ Some other) ⊎ ((place ≡ length (keys_of table)) × (last_key ≡ other))
  key_is place other at = key_place (keys_of table) last_key place other (ap (λ (ks : List Key). slice_get ks place) (sym all_keys) ∙ at)

  pub key_stays : (place : ℕ) (other : Key) → slice_get (keys_of table) place ≡ Some other → slice_get (keys_of longer) place ≡ Some other
  key_stays place other at =
      ap (λ (ks : List Key). slice_get ks place) all_keys ∙ slice_get-append (keys_of table) (last_key ∷ []) place (slice_get_within (keys_of table) place other at) ∙ at

  pub key_last : slice_get (keys_of longer) (length (keys_of table)) ≡ Some last_key
  key_last = ap (λ (ks : List Key). slice_get ks (length (keys_of table))) all_keys ∙ end (keys_of table)
    where
      end : (ks : List Key) → slice_get (ks ++ last_key ∷ []) (length ks) ≡ Some last_key
      end [] = refl
      end (k ∷ ks) = end ks

  -- and so is its type
  pub type_front : (place : ℕ) (other : Key) (was : TypeDef) → slice_get (keys_of table) place ≡ Some other → slice_get longer.types place ≡ Some was → slice_get table.types place ≡ Some was
  type_front place other was at stands =
      let low : place < length table.types = omega (arith, slice_get_within (keys_of table) place other at, keys.count_of table keyed) in
      sym (slice_get-append table.types (one ∷ []) place low) ∙ stands

  pub type_last : (place : ℕ) (was : TypeDef) → place ≡ length (keys_of table) → slice_get longer.types place ≡ Some was → one ≡ was
  type_last place was spot stands =
      some_type one was (sym (slice_get-seam table.types one) ∙ ap (slice_get longer.types) (sym (spot ∙ keys.count_of table keyed)) ∙ stands)

  -- the names of units stay at their places
  unit_stays : (place : ℕ) (name : List ℕ) → slice_get table.units place ≡ Some name → slice_get (with_unit table.units unit) place ≡ Some name
  unit_stays place name at =
      let a = is_added table.units unit in
      let low = slice_get_within table.units place name at in
      let there : get_or table.units place [] ≡ name = same_Some (get_or table.units place []) name (sym (slice_get-get_or table.units place [] low) ∙ at) in
      slice_get-get_or (with_unit table.units unit) place [] (omega (arith, low, a.more)) ∙ ap (λ (u : List ℕ). Some u) (a.stay place low ∙ there)

  unit_here : slice_get (with_unit table.units unit) (place_of table.units unit) ≡ Some unit
  unit_here =
      let a = is_added table.units unit in
      slice_get-get_or (with_unit table.units unit) (place_of table.units unit) [] a.within ∙ ap (λ (u : List ℕ). Some u) a.at

  pub owned_with : HasMethodsOf (place_of table.units unit) one → AreOwned table → AreOwned longer
  owned_with methods owned place other was at stands =
      elim (key_is place other at) [
        | inl old ↦
            let o = owned place other was old (type_front place other was old stands) in
            record { place = o.place; named = unit_stays o.place other.unit o.named; methods = o.methods }
        | inr last ↦
            let mine : unit ≡ other.unit = ap (λ (k : Key). k.unit) last.1 in
            let is : one ≡ was = type_last place was last.0 stands in
            let here : IsOwned longer unit one = record { place = place_of table.units unit; named = unit_here; methods = methods } in
            subst (λ (u : List ℕ). IsOwned longer u was) mine (subst (λ (t : TypeDef). IsOwned longer unit t) is here)
      ]

-- ---- the types of another table that are new

module _ (table other : Table) (keyed : IsKeyed table) where
  abbrev ids : List TypeId
  ids = ids_in table other

  listed_owned : (before : Table) → IsKeyed before → AreOwned before → (one : Option TypeDef) (origin : Option Origin) → AreOwned (with_listed ids before other.units one origin)
  listed_owned before k owned (Some one) (Some origin) =
      let key : Key = key_of other.units origin in
      owned_with before k key.unit key.number (added_type ids before key one) (has_methods ids (place_of before.units key.unit) one) owned
  listed_owned before k owned (Some one) None = owned
  listed_owned before k owned None origin = owned

  merged_owned : (number : ℕ) → number ≤ length other.types → AreOwned table → AreOwned (merged other ids table number)
  merged_owned zero within owned = owned
  merged_owned (suc number) within owned =
      let low : number ≤ length other.types = omega (arith, within) in
      by (is_new ids (merged other ids table number) number)
      (listed_owned (merged other ids table number) (merged_so table other keyed number low).keyed (merged_owned number low owned) (slice_get other.types number) (slice_get other.origins number))
      (merged_owned number low owned)
    where
      by : (b : Bool) → AreOwned (with_listed ids (merged other ids table number) other.units (slice_get other.types number) (slice_get other.origins number)) → AreOwned (merged other ids table number)
          → AreOwned (cond b (with_listed ids (merged other ids table number) other.units (slice_get other.types number) (slice_get other.origins number)) (merged other ids table number))
      by true new old = new
      by false new old = old

  pub types_owned : AreOwned table → AreOwned (with_types table other)
  types_owned owned = merged_owned (length other.types) (omega arith) owned
