-- The types of told interfaces fit those of told tables.
use Rattle.std.specs.Prelude.{◌≡◌, ℕ, true, false, List, [], ◌∷◌, Some, slice_get}
use Rattle.tables_closed.specs.type_layout.declared.definitions.TypeDef.{TypeDef}
use Rattle.tables_closed.specs.type_layout.Table.{Table, HasMethodsOf}
use Rattle.tables_closed.specs.typed_tree.declared.units.Unit as typed
use Rattle.tables_closed.specs.scopes.Environment.{Environment}
use Rattle.tables_closed.specs.scopes.Predeclared.{first}
use Rattle.tables_closed.specs.unit_interface.declared.interfaces.Interface.{Interface}
use Rattle.tables_closed.specs.unit_interface.declared.keys.Key.{Key}
use Rattle.tables_closed.specs.unit_interface.Merge.{keys_of}
use Rattle.tables_closed.specs.unit_interface.Exports.{IsInterfaceOf}
use Rattle.tables_closed.specs.unit_interface.Resolve.{is_overlay, interface_named, with_use, with_uses}
use Rattle.tables_closed.specs.unit_interface.Fitting.{types_fit, use_fits, uses_fit}
use Rattle.tables_closed.specs.constants.Ordered.{IsOrdered}
use Rattle.imported_types_agree.specs.well_scoped.Scopes.{IsCompleteScope, IsWellScopedInterface}
use Rattle.imported_types_agree.specs.consistent_types.Consistency.{home_of, IsWellScopedTable, AreWellScopedHomes, IsConsistent, IsConsistentInterface, IsConsistentWithOthers}

-- each type of a unit has its methods of one unit
abbrev pub HaveOwnMethods : List ℕ → Table → Type 0
HaveOwnMethods name table = (number : ℕ) (key : Key) (one : TypeDef) → slice_get (keys_of table) number ≡ Some key → key.unit ≡ name → slice_get table.types number ≡ Some one → (unit : ℕ) × HasMethodsOf unit one

-- a complete scope whose table is told
pub record IsConsistentScope (have : List Interface) (g : Environment) : Type 0 where
  pub told : IsConsistent have g.types
  pub complete : IsCompleteScope g

-- what stands among some interfaces for a unit is told; OVERLAY needs none
abbrev pub IsConsistentUse : List Interface → List ℕ → Type 0
IsConsistentUse have name = is_overlay name ≡ false → (interface : Interface) → interface_named have name ≡ Some interface → IsConsistentInterface have interface

abbrev pub AreConsistentUses : List Interface → List (List ℕ) → Type 0
AreConsistentUses have [] = Unit {0}
AreConsistentUses have (name ∷ names) = IsConsistentUse have name × AreConsistentUses have names

pub record AreFit : Type 0 where
  -- a closed interface for each unit: its tables are closed
  pub homes : (have : List Interface) → ((name : List ℕ) (i : Interface) → interface_named have name ≡ Some i → IsWellScopedInterface i) → AreWellScopedHomes have
  -- the types of one interface
  pub types : (have : List Interface) → AreWellScopedHomes have → (table : Table) (i : Interface) → IsConsistent have table → IsOrdered table → IsWellScopedTable table → IsConsistentInterface have i
      → types_fit table i.types ≡ true
  -- those of a used unit, with which the scope stays told
  pub one_fits : (have : List Interface) → AreWellScopedHomes have → (g : Environment) (name : List ℕ) → IsConsistentScope have g → IsConsistentUse have name → use_fits have g name ≡ true
  pub with_one : (have : List Interface) → AreWellScopedHomes have → (g : Environment) (name : List ℕ) → IsConsistentScope have g → IsConsistentUse have name → IsConsistentScope have (with_use have g name)
  -- and of several
  pub all_fit : (have : List Interface) → AreWellScopedHomes have → (g : Environment) (names : List (List ℕ)) → IsConsistentScope have g → AreConsistentUses have names → uses_fit have g names ≡ true
  pub with_all : (have : List Interface) → AreWellScopedHomes have → (g : Environment) (names : List (List ℕ)) → IsConsistentScope have g → AreConsistentUses have names → IsConsistentScope have (with_uses have g names)
  -- the table of a unit that is told, but for the unit's own types, is told where the unit's interface is among those that tell
  pub own : (have : List Interface) (unit : typed.Unit) (i : Interface) → IsInterfaceOf unit i → IsConsistentWithOthers have unit.name unit.types → IsWellScopedTable unit.types → home_of have unit.name ≡ Some i.types
      → HaveOwnMethods unit.name unit.types → IsConsistent have unit.types
  -- before any unit is used
  pub first : (have : List Interface) → AreWellScopedHomes have → (name : List ℕ) → IsConsistentScope have (first name)
