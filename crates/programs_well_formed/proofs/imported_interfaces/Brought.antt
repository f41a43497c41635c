-- A used unit brings what is there.
use Rattle.std.proofs.Common.{◌≡◌, ◌⊎◌, inl, inr, ℕ, zero, suc, ◌<◌, ◌≤◌, List, [], ◌∷◌, ◌++◌, length, Option, Some, refl, sym, subst, ap, ◌∙◌, arith, length-append}
use Rattle.std.specs.Prelude.{slice_get}
use Rattle.std.proofs.lemmas.Option.{slice_get_within}
use Rattle.units_well_formed.specs.type_layout.declared.definitions.TypeId.{TypeId}
use Rattle.units_well_formed.specs.type_layout.declared.definitions.Method.{Method}
use Rattle.units_well_formed.specs.type_layout.declared.definitions.Host.TheVariants as host
use Rattle.units_well_formed.specs.type_layout.declared.definitions.TypeDef.{TypeDef}
use Rattle.units_well_formed.specs.type_layout.declared.definitions.TypeDef.TheVariants as type
use Rattle.units_well_formed.specs.type_layout.Table.{Table, place_of}
use Rattle.units_well_formed.proofs.type_layout_proofs.Local.{slice_get-append}
use Rattle.units_well_formed.specs.typed_tree.type_fits.Fits.{definition}
use Rattle.units_well_formed.specs.scopes.Symbols.{SymbolList}
use Rattle.units_well_formed.specs.unit_interface.Merge.{ids_in, with_items, with_interface}
use Rattle.units_well_formed.specs.unit_interface.Exports as exports
use Rattle.units_well_formed.specs.call_rules.method_rules.Slots.{methods_of}
use Rattle.units_well_formed.specs.tables_closed.constants.Bounds.{AreBelow, in_names, in_lists}
use Rattle.units_well_formed.specs.tables_closed.constants.Ordered.{IsOrdered}
use Rattle.units_well_formed.proofs.tables_closed_proofs.constants.Below.{below_first, below_last}
use Rattle.units_well_formed.specs.imported_types_agree.well_scoped.Scopes.{AreWellScoped}
use Rattle.units_well_formed.proofs.declarations_well_formed_proofs.tables.Sound.{sound}
use Rattle.units_well_formed.proofs.units.Below.{below_names}
use Rattle.units_well_formed.specs.units.Below.{IsTabled}
use Rattle.units_well_formed.specs.units.Bringing.{IsForeign}
use Rattle.programs_well_formed.specs.imported_interfaces.Laws.{InterfaceLaw}
use Rattle.programs_well_formed.proofs.imported_interfaces.Merged.{IsGrownTo, grown_to}
use Rattle.programs_well_formed.proofs.imported_interfaces.Entries.{units_longer, of_interface, entries_there, constants_there}

last_below : (n : ℕ) (lists : List SymbolList) (names : SymbolList) → AreBelow n (in_lists (lists ++ names ∷ [])) → AreBelow n (in_names names)
last_below n [] names h = below_first n (in_names names) [] h
last_below n (first ∷ lists) names h = last_below n lists names (below_last n (in_names first) (in_lists (lists ++ names ∷ [])) h)

where_is : (n m : ℕ) → (n < m) ⊎ (m ≤ n)
where_is n zero = inr (omega arith)
where_is zero (suc m) = inl (omega arith)
where_is (suc n) (suc m) = next (where_is n m)
  where
    next : (n < m) ⊎ (m ≤ n) → (suc n < suc m) ⊎ (suc m ≤ suc n)
    next (inl f) = inl (omega (arith, f))
    next (inr f) = inr (omega (arith, f))

-- the table has a type behind each ordinal type of an enumeration, and names the units of methods
tabled : (name : List ℕ) (table t : Table) → IsTabled table → IsOrdered t → IsGrownTo name table t → ((by : ℕ) → AreBelow (length t.types) (exports.with_type by (slice_get t.types by))) → IsTabled t
tabled name table t before ordered grown below = record {
  ordered = ordered;
  followed = λ number low high at.
      let whole : AreBelow (length t.types) (exports.with_type number (Some (type.Ordinal host.Enumeration low high))) = subst (λ (d : Option TypeDef). AreBelow (length t.types) (exports.with_type number d)) at (below number) in
      whole.0;
  owned = λ class place method m. by class place method m (where_is class.0 (length table.types));
}
  where
    types : (back : List TypeDef) × (t.types ≡ table.types ++ back)
    types = grown.types

    units : (back : List (List ℕ)) × (t.units ≡ table.units ++ back)
    units = grown.units

    longer : length table.units ≤ length t.units
    longer = let count = length-append table.units units.0 in let is : length t.units ≡ length (table.units ++ units.0) = ap (λ (l : List (List ℕ)). length l) units.1 in omega (arith, count, is)

    by : (class : TypeId) (place : ℕ) (method : Method) → slice_get (methods_of (definition t.types class)) place ≡ Some method → (class.0 < length table.types) ⊎ (length table.types ≤ class.0)
        → method.routine.unit < length t.units
    by class place method m (inl low) =
        let same : definition t.types class ≡ definition table.types class = ap (λ (l : List TypeDef). slice_get l class.0) types.1 ∙ slice_get-append table.types types.0 class.0 low in
        let old = before.owned class place method (ap (λ (d : Option TypeDef). slice_get (methods_of d) place) (sym same) ∙ m) in
        omega (arith, old, longer)
    by class place method m (inr high) =
        let it = grown.methods class.0 high place method m in
        slice_get_within t.units method.routine.unit it.unit it.there

pub interface_brings : AreWellScoped → InterfaceLaw
interface_brings closing name g i s known table complete named shown fits faithful fit =
    let h = with_interface g i in
    let grown = grown_to name g.types i.types (ids_in g.types i.types) faithful.foreign (length i.types.types) in
    let types = grown.types in
    let after = closing.interface g i complete shown fits in
    let whole = after.closed in
    let names = with_items (ids_in g.types i.types) (place_of g.units i.name) [] i.items in
    let low = below_names (length h.types.types) names (last_below (length h.types.types) g.used names whole.used) in
    let each = of_interface name g i s named faithful.other faithful.constants in
    let units = units_longer g i in
    record {
      names = names;
      whole = refl;
      types = types;
      units = (units.back, units.is);
      table_units = grown.units;
      methods = λ class place method high m.
          let it = grown.methods class.0 high place method m in
          let foreign : IsForeign name h.types method = record { unit = it.unit; there = it.there; other = it.other } in
          foreign;
      sound = sound h fit whole after.ordered.begins;
      table = tabled name g.types h.types table after.ordered grown whole.types;
      entries = entries_there name g i s named faithful.other each low;
      values = constants_there name g i s named faithful.other names each;
    }
