-- The unit that declares a type, and its number there, are what is known of the type in programs.
use Rattle.std.proofs.Common.{◌≡◌, ◌∙◌, ℕ, ◌<◌, List, [], length, Option, Some, None, option_map, refl, sym, ap, subst}
use Rattle.std.specs.Prelude.{slice_get, option_and_then}
use Rattle.std.proofs.lemmas.Option.{none-some, same_Some, slice_get_within, slice_get-get_or, slice_get-map, get_or_from_slice_get}
use Rattle.unit_references.specs.type_layout.declared.definitions.Origin.{Origin}
use Rattle.unit_references.specs.type_layout.Table.{Table}
use Rattle.unit_references.specs.tp_meaning.Trees.{Key as Class}
use Rattle.unit_references.specs.tp_meaning.Programs.{class_by}
use Rattle.unit_references.specs.store_typing.types.Declared.{declared}
use Rattle.units_well_formed.specs.unit_interface.declared.keys.Key.{Key}
use Rattle.units_well_formed.specs.unit_interface.Merge.{key_of, keys_of}
use Rattle.units_well_formed.specs.unit_interface.Keyed.{IsKeyed}

abbrev pub class_of : Key → Class
class_of key = record { unit = key.unit; number = key.number }

pub same_key : (one other : Key) → class_of one ≡ class_of other → one ≡ other
same_key one other e = λ i. record { unit = (e i).unit; number = (e i).number }

module _ (table : Table) (keyed : IsKeyed table) where
  key_is : (number : ℕ) (key : Key) (origin : Origin) → slice_get (keys_of table) number ≡ Some key → slice_get table.origins number ≡ Some origin → key_of table.units origin ≡ key
  key_is number key origin at found =
      same_Some (key_of table.units origin) key
      (ap (λ (o : Option Origin). option_map (key_of table.units) o) (sym found) ∙ sym (slice_get-map (key_of table.units) table.origins number) ∙ at)

  low : (number : ℕ) (origin : Origin) → slice_get table.origins number ≡ Some origin → origin.unit < length table.units
  low number origin found =
      subst (λ (o : Origin). o.unit < length table.units) (get_or_from_slice_get table.origins number origin origin found)
      (keyed.known number origin (slice_get_within table.origins number origin found))

  pub declared_at : (number : ℕ) (key : Key) → slice_get (keys_of table) number ≡ Some key → declared table (record { 0 = number }) ≡ Some (class_of key)
  declared_at number key at = by (slice_get table.origins number) refl
    where
      by : (o : Option Origin) → slice_get table.origins number ≡ o → option_and_then (class_by table) o ≡ Some (class_of key)
      by None none =
          let bad : None ≡ Some key = ap (λ (o : Option Origin). option_map (key_of table.units) o) (sym none) ∙ sym (slice_get-map (key_of table.units) table.origins number) ∙ at in
          absurd (none-some key bad)
      by (Some origin) found =
          ap (λ (o : Option (List ℕ)). option_map (λ (name : List ℕ). (let c : Class = record { unit = name; number = origin.number } in c)) o)
          (slice_get-get_or table.units origin.unit [] (low number origin found))
          ∙ ap (λ (k : Key). Some (class_of k)) (key_is number key origin at found)
