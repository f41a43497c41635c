-- Tables stay told as units are used and declare types, and what is shown of them is told.
use Rattle.std.specs.Prelude.{◌≡◌, ℕ, ◌+◌, ◌≤◌, ℤ, false, List, [], ◌++◌, Some, All, length, slice_get, get_or}
use Rattle.tables_closed.specs.type_layout.declared.definitions.TypeId.{TypeId}
use Rattle.tables_closed.specs.type_layout.declared.definitions.Host.TheVariants as host
use Rattle.tables_closed.specs.type_layout.declared.definitions.TypeDef.{TypeDef}
use Rattle.tables_closed.specs.type_layout.declared.definitions.TypeDef.TheVariants as type
use Rattle.tables_closed.specs.type_layout.declared.layout.Layout.{Layout}
use Rattle.tables_closed.specs.type_layout.Layouts.{layouts_of}
use Rattle.tables_closed.specs.type_layout.Table.{Table, AllDefined}
use Rattle.tables_closed.specs.typed_tree.declared.units.Unit as typed
use Rattle.tables_closed.specs.scopes.Predeclared.{type_table}
use Rattle.tables_closed.specs.unit_interface.declared.keys.Key.{Key}
use Rattle.tables_closed.specs.unit_interface.declared.interfaces.Interface.{Interface}
use Rattle.tables_closed.specs.unit_interface.Merge.{keys_of, ids_in, renumbered, is_new, merged, with_types}
use Rattle.tables_closed.specs.unit_interface.Keyed.{IsKeyed}
use Rattle.tables_closed.specs.unit_interface.Exports.{IsInterfaceOf}
use Rattle.imported_types_agree.specs.consistent_types.Consistency.{home_of, AreAtHome, AreFollowed, IsWellScopedTable, AreWellScopedHomes, IsConsistent, IsConsistentInterface, IsConsistentWithOthers}

-- a type stands in a list of types under an id, with the new ids of what it names
pub record IsKnownThere (ids : List TypeId) (types : List TypeDef) (id : TypeId) (one : TypeDef) : Type 0 where
  pub unit : ℕ
  pub at : slice_get types id.0 ≡ Some (renumbered ids unit one)

-- A table with further types behind its own, all of one unit.
pub record IsWithDeclared (name : List ℕ) (table longer : Table) : Type 0 where
  pub keyed : IsKeyed longer
  pub followed : AreFollowed longer
  pub types : List TypeDef
  pub more_types : longer.types ≡ table.types ++ types
  pub keys : List Key
  pub more_keys : keys_of longer ≡ keys_of table ++ keys
  pub own : (number : ℕ) (key : Key) → slice_get keys number ≡ Some key → key.unit ≡ name

pub record AreToldOn : Type 0 where
  -- the table that every source begins with
  pub first : (have : List Interface) → IsConsistent have type_table
  pub first_home : (have : List Interface) → AreAtHome have type_table
  -- with the types of an interface
  pub brought : (have : List Interface) → AreWellScopedHomes have → (table : Table) (i : Interface) → IsConsistent have table → IsWellScopedTable table → IsConsistentInterface have i
      → IsConsistent have (with_types table i.types)
  pub brought_home : (have : List Interface) (table other : Table) → IsKeyed table → IsKeyed other → AreAtHome have table → AreAtHome have other → AreAtHome have (with_types table other)
  -- a type of the interface that isn't new when it comes in is there already, the same under new ids
  pub known : (have : List Interface) → AreWellScopedHomes have → (table : Table) (i : Interface) → IsConsistent have table → IsWellScopedTable table → IsConsistentInterface have i
      → (number : ℕ) (one : TypeDef) (d : TypeId) → slice_get i.types.types number ≡ Some one → is_new (ids_in table i.types) (merged i.types (ids_in table i.types) table number) number ≡ false
      → IsKnownThere (ids_in table i.types) (merged i.types (ids_in table i.types) table number).types (get_or (ids_in table i.types) number d) one
  -- and the set behind an enumeration gets the next id
  pub beside : (have : List Interface) → AreWellScopedHomes have → (table : Table) (i : Interface) → IsConsistent have table → IsWellScopedTable table → IsConsistentInterface have i
      → (number : ℕ) (low high : ℤ) (d e : TypeId) → slice_get i.types.types number ≡ Some (type.Ordinal host.Enumeration low high)
      → (get_or (ids_in table i.types) (number + 1) e).0 ≡ (get_or (ids_in table i.types) number d).0 + 1
  -- with types that a unit declares
  pub declared : (have : List Interface) → AreWellScopedHomes have → (name : List ℕ) (table longer : Table) → IsConsistent have table → AreAtHome have table → IsWellScopedTable table
      → IsWithDeclared name table longer → IsConsistentWithOthers have name longer
  -- what a unit shows of its table
  pub shown : (have : List Interface) → AreWellScopedHomes have → (unit : typed.Unit) (i : Interface) → IsConsistentWithOthers have unit.name unit.types → IsWellScopedTable unit.types → IsInterfaceOf unit i
      → home_of have unit.name ≡ Some i.types → IsConsistent have i.types
  pub shown_home : (have : List Interface) → AreWellScopedHomes have → (unit : typed.Unit) (i : Interface) → IsConsistentWithOthers have unit.name unit.types → IsWellScopedTable unit.types → IsInterfaceOf unit i
      → home_of have unit.name ≡ Some i.types → AreAtHome have i.types
  -- its types stand behind their parts, and are not too large
  pub shown_defined : (unit : typed.Unit) (i : Interface) → length unit.types.origins ≡ length unit.types.types → AllDefined [] unit.types.types
      → All (λ (layout : Layout). layout.size ≤ 65520) (layouts_of unit.types.types) → IsInterfaceOf unit i → AllDefined [] i.types.types
  pub shown_small : (unit : typed.Unit) (i : Interface) → length unit.types.origins ≡ length unit.types.types → AllDefined [] unit.types.types
      → All (λ (layout : Layout). layout.size ≤ 65520) (layouts_of unit.types.types) → IsInterfaceOf unit i → All (λ (layout : Layout). layout.size ≤ 65520) (layouts_of i.types.types)
