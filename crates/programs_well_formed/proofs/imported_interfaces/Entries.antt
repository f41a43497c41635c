-- What the names of a used unit mean is there.
use Rattle.std.proofs.Common.{◌≡◌, ℕ, zero, suc, ◌≤◌, Bool, true, false, cond, List, [], ◌∷◌, ◌++◌, length, Some, refl, sym, subst, ap, ◌∙◌, arith, append-nil, append_assoc}
use Rattle.std.specs.Prelude.{slice_get}
use Rattle.units_well_formed.specs.type_layout.Table.{place_of, with_unit}
use Rattle.units_well_formed.specs.type_layout.Words.{same_bytes}
use Rattle.units_well_formed.specs.typed_tree.declared.units.Item.{Item}
use Rattle.units_well_formed.specs.typed_tree.declared.units.Item.TheVariants as item
use Rattle.units_well_formed.specs.well_formed.Scopes.{Scope, IsNamed}
use Rattle.units_well_formed.specs.scopes.Predeclared.{system}
use Rattle.units_well_formed.specs.scopes.declared.entries.Entry.{Entry}
use Rattle.units_well_formed.specs.scopes.declared.entries.Entry.TheVariants as entry
use Rattle.units_well_formed.specs.scopes.Symbols.{SymbolList}
use Rattle.units_well_formed.specs.scopes.Environment.{Environment}
use Rattle.units_well_formed.specs.unit_interface.declared.interfaces.Interface.{Interface}
use Rattle.units_well_formed.specs.unit_interface.Merge.{ids_in, with_items, with_declaring, with_all_declaring, with_interface}
use Rattle.units_well_formed.proofs.rules_well_formed_proofs.nodes.Fields.{some_within}
use Rattle.units_well_formed.specs.tables_closed.constants.Bounds.{AreBelow, in_entry}
use Rattle.units_well_formed.proofs.declarations_well_formed_proofs.tables.Sound.{header_in}
use Rattle.units_well_formed.specs.declarations_well_formed.constants.Whole.{IsConstantOf}
use Rattle.units_well_formed.specs.units.Below.{IsConstantIn, IsEntry, EachOf}
use Rattle.units_well_formed.proofs.units.Below.{unit_among, snoc_last, placed}
use Rattle.units_well_formed.specs.units.Bringing.{with_table}
use Rattle.units_well_formed.proofs.units.Told.{IsShown, named_at, names_told, entries_told}
use Rattle.units_well_formed.proofs.units.Overlay.{EachItem, items_have}
use Rattle.units_well_formed.specs.declarations_well_formed.exported_constants.Agreed.{AreConstantsIn}
use Rattle.programs_well_formed.proofs.imported_interfaces.Merged.{get_front}

-- ---- units

-- further units behind
pub record IsLonger (units longer : List (List ℕ)) : Type 0 where
  pub back : List (List ℕ)
  pub is : longer ≡ units ++ back

longer_self : (units : List (List ℕ)) → IsLonger units units
longer_self units = record { back = []; is = sym (append-nil units) }

longer_on : (a b c : List (List ℕ)) → IsLonger a b → IsLonger b c → IsLonger a c
longer_on a b c h k = record { back = h.back ++ k.back; is = k.is ∙ ap (λ (l : List (List ℕ)). l ++ k.back) h.is ∙ append_assoc a h.back k.back }

longer_unit : (units : List (List ℕ)) (unit : List ℕ) → IsLonger units (with_unit units unit)
longer_unit units unit = let it = placed units unit in record { back = it.more; is = it.grows }

longer_declaring : (units : List (List ℕ)) (unit : List ℕ) → IsLonger units (with_declaring units unit)
longer_declaring units unit = by (same_bytes unit system)
  where
    by : (b : Bool) → IsLonger units (cond b units (with_unit units unit))
    by true = longer_self units
    by false = longer_unit units unit

longer_all : (more units : List (List ℕ)) → IsLonger units (with_all_declaring units more)
longer_all [] units = longer_self units
longer_all (unit ∷ more) units = longer_on units (with_declaring units unit) (with_all_declaring (with_declaring units unit) more) (longer_declaring units unit) (longer_all more (with_declaring units unit))

pub units_longer : (g : Environment) (i : Interface) → IsLonger g.units (with_interface g i).units
units_longer g i =
    longer_on g.units (with_unit g.units i.name) (with_interface g i).units (longer_unit g.units i.name) (longer_all i.types.units (with_unit g.units i.name))

-- ---- entries

module _ (name : List ℕ) (g : Environment) (i : Interface) (s : Scope) (named : slice_get g.units 0 ≡ Some name) (other : i.name ≡ name → ⊥) where
  abbrev h : Environment
  h = with_interface g i

  abbrev wide : Scope
  wide = with_table s h

  abbrev place : ℕ
  place = place_of g.units i.name

  at_place : slice_get h.units place ≡ Some i.name
  at_place =
      let all = longer_all i.types.units (with_unit g.units i.name) in
      ap (λ (us : List (List ℕ)). slice_get us place) all.is ∙ get_front (with_unit g.units i.name) all.back place i.name (placed g.units i.name).there

  behind_first : 1 ≤ place
  behind_first = by place at_place
    where
      first : slice_get h.units 0 ≡ Some name
      first =
          let all = units_longer g i in
          ap (λ (us : List (List ℕ)). slice_get us 0) all.is ∙ get_front g.units all.back 0 name named

      by : (n : ℕ) → slice_get h.units n ≡ Some i.name → 1 ≤ n
      by zero e =
          let f = first in
          let same : i.name ≡ name = cc in
          absurd (other same)
      by (suc n) e = omega arith

  -- what an item means, but for types
  abbrev pub IsOfInterface : Entry → Type 0
  IsOfInterface (entry.Const ty v) = IsConstantOf h.types.types ty v
  IsOfInterface (entry.Ty ty) = Unit {0}
  IsOfInterface (entry.Var unit level number ty) = (unit ≡ place) × (level ≡ 0)
  IsOfInterface (entry.Code code level header far) = code.unit ≡ place
  IsOfInterface (entry.Std number) = ⊥

  each_item : (items : List Item) → AreConstantsIn h.types.types (ids_in g.types i.types) items → EachItem IsOfInterface (ids_in g.types i.types) place items
  each_item [] k = tt
  each_item (item.Const word ty v ∷ rest) k = (k.0, each_item rest k.1)
  each_item (item.Ty word ty ∷ rest) k = (tt, each_item rest k)
  each_item (item.Var word ty number ∷ rest) k = ((refl, refl), each_item rest k)
  each_item (item.Code word header number ∷ rest) k = (refl, each_item rest k)

  pub of_interface : AreConstantsIn h.types.types (ids_in g.types i.types) i.items → EachOf IsOfInterface (with_items (ids_in g.types i.types) place [] i.items)
  of_interface k = items_have IsOfInterface (ids_in g.types i.types) place [] i.items tt (each_item i.items k)

  entry_there : (one : Entry) → IsOfInterface one → AreBelow (length h.types.types) (in_entry one) → IsShown wide one
  entry_there (entry.Const ty v) k low = k.value
  entry_there (entry.Ty ty) k low = some_within h.types.types ty.0 low.0
  entry_there (entry.Var unit level number ty) k low = (some_within h.types.types ty.0 low.0, k.1, subst (λ (u : ℕ). 1 ≤ u) (sym k.0) behind_first)
  entry_there (entry.Code code level header far) k low = (
    header_in h.types.types header low,
    subst (λ (u : ℕ). 1 ≤ u) (sym k) behind_first,
    subst (λ (u : ℕ). IsNamed wide u) (sym k) (named_at wide place i.name behind_first (unit_among h place i.name at_place)),
  )
  entry_there (entry.Std number) k low = absurd k

  shown_there : (names : SymbolList) → EachOf IsOfInterface names → EachOf (λ (one : Entry). AreBelow (length h.types.types) (in_entry one)) names → EachOf (IsShown wide) names
  shown_there [] k low = tt
  shown_there (one ∷ rest) k low = (entry_there one.1 k.0 low.0, shown_there rest k.1 low.1)

  -- the names that the unit brings
  abbrev names : SymbolList
  names = with_items (ids_in g.types i.types) place [] i.items

  pub entries_there : EachOf IsOfInterface names → EachOf (λ (one : Entry). AreBelow (length h.types.types) (in_entry one)) names → EachOf (IsEntry wide []) names
  entries_there k low = entries_told wide names (shown_there names k low) (names_told h (length g.used) names (snoc_last g.used names))

  constant_there : (one : Entry) → IsOfInterface one → IsConstantIn h.types.types one
  constant_there (entry.Const ty v) k = k
  constant_there (entry.Ty ty) k = tt
  constant_there (entry.Var unit level number ty) k = tt
  constant_there (entry.Code code level header far) k = tt
  constant_there (entry.Std number) k = tt

  pub constants_there : (names : SymbolList) → EachOf IsOfInterface names → EachOf (IsConstantIn h.types.types) names
  constants_there [] k = tt
  constants_there (one ∷ rest) k = (constant_there one.1 k.0, constants_there rest k.1)
