-- What the table of a unit tells of the types of all units.
use Rattle.std.specs.Prelude.{◌≡◌, ℕ, List, Some, slice_get}
use Rattle.unit_references.specs.type_layout.declared.definitions.TypeDef.{TypeDef}
use Rattle.unit_references.specs.type_layout.Table.{Table, HasMethodsOf}
use Rattle.unit_references.specs.typed_tree.declared.units.Unit.{Unit as TypedUnit}
use Rattle.units_well_formed.specs.unit_interface.declared.keys.Key.{Key}
use Rattle.units_well_formed.specs.unit_interface.declared.interfaces.Interface.{Interface}
use Rattle.units_well_formed.specs.unit_interface.Merge.{keys_of}
use Rattle.unit_references.specs.store_typing.types.Agreement.{IsLawful}
use Rattle.units_well_formed.specs.imported_types_agree.consistent_types.Consistency.{home_of, AreAlike, IsWellScopedTable, IsConsistentWithOthers}

-- the routines of an object type's methods are of the unit with this name
pub record IsOwned (table : Table) (unit : List ℕ) (one : TypeDef) : Type 0 where
  pub place : ℕ
  pub named : slice_get table.units place ≡ Some unit
  pub methods : HasMethodsOf place one

-- each object type has its methods of the unit that declares it
abbrev pub AreOwned : Table → Type 0
AreOwned table = (number : ℕ) (key : Key) (one : TypeDef) → slice_get (keys_of table) number ≡ Some key → slice_get table.types number ≡ Some one → IsOwned table key.unit one

-- A unit's table tells of types of other units what their interfaces tell, and of its own what its own interface tells, if it has one.
pub record IsConsistentIn (have : List Interface) (unit : TypedUnit) : Type 0 where
  pub lawful : IsLawful unit.types
  pub closed : IsWellScopedTable unit.types
  pub owned : AreOwned unit.types
  pub told : IsConsistentWithOthers have unit.name unit.types
  pub own : (home : Table) → home_of have unit.name ≡ Some home → AreAlike have unit.types
