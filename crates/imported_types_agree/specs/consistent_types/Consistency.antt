-- What tables tell of the types that units declare: each table tells of a type what the interface of its unit tells.
use Rattle.std.specs.Prelude.{◌≡◌, ℕ, ◌+◌, ◌≤◌, ℤ, List, [], Option, Some, cond, map, length, option_map, slice_get}
use Rattle.tables_closed.specs.type_layout.declared.definitions.TypeId.{TypeId}
use Rattle.tables_closed.specs.type_layout.declared.definitions.Host.TheVariants as host
use Rattle.tables_closed.specs.type_layout.declared.definitions.TypeDef.{TypeDef}
use Rattle.tables_closed.specs.type_layout.declared.definitions.TypeDef.TheVariants as type
use Rattle.tables_closed.specs.type_layout.declared.layout.Layout.{Layout}
use Rattle.tables_closed.specs.type_layout.Layouts.{layouts_of}
use Rattle.tables_closed.specs.type_layout.Words.{same_bytes}
use Rattle.tables_closed.specs.type_layout.Table.{Table, AllDefined}
use Rattle.std.specs.List.{All}
use Rattle.tables_closed.specs.scopes.Predeclared.{system, type_table}
use Rattle.tables_closed.specs.unit_interface.declared.keys.Key.{Key}
use Rattle.tables_closed.specs.unit_interface.declared.interfaces.Interface.{Interface}
use Rattle.tables_closed.specs.unit_interface.Merge.{keys_of, place_of_key, renumbered}
use Rattle.tables_closed.specs.unit_interface.Keyed.{IsKeyed}
use Rattle.tables_closed.specs.unit_interface.Resolve.{interface_named}
use Rattle.tables_closed.specs.unit_interface.Exports.{with_type}
use Rattle.tables_closed.specs.constants.Bounds.{AreBelow}
use Rattle.imported_types_agree.specs.well_scoped.Scopes.{IsWellScopedInterface}

-- the table by which a unit's types are known: SYSTEM's are predeclared, those of another unit stand in its interface
abbrev pub home_of : List Interface → List ℕ → Option Table
home_of have unit = cond (same_bytes unit system) (Some type_table) (option_map (λ i. i.types) (interface_named have unit))

-- the ids that the types of one table have in another, by the units that declare them and their numbers there
abbrev pub between : Table → Table → List TypeId
between from to = map (λ key. record { 0 = place_of_key (keys_of to) key }) (keys_of from)

-- a key stands among others
pub record Stands (keys : List Key) (key : Key) : Type 0 where
  pub place : ℕ
  pub at : slice_get keys place ≡ Some key

-- a type of a table stands in the interface of the unit that declares it
pub record IsAtHome (have : List Interface) (key : Key) : Type 0 where
  pub home : Table
  pub is : home_of have key.unit ≡ Some home
  pub stands : Stands (keys_of home) key

abbrev pub AreAtHome : List Interface → Table → Type 0
AreAtHome have table = (number : ℕ) (key : Key) → slice_get (keys_of table) number ≡ Some key → IsAtHome have key

-- the same type under the ids of another table; the routines of its methods are of the unit at some place there
pub record IsAlike (home table : Table) (first one : TypeDef) : Type 0 where
  pub unit : ℕ
  pub is : one ≡ renumbered (between home table) unit first

-- What stands of a table's types in the interfaces of their units is the same there.
abbrev pub AreAlike : List Interface → Table → Type 0
AreAlike have table = (number place : ℕ) (key : Key) (home : Table) (first one : TypeDef) → slice_get (keys_of table) number ≡ Some key → slice_get table.types number ≡ Some one
    → home_of have key.unit ≡ Some home → slice_get (keys_of home) place ≡ Some key → slice_get home.types place ≡ Some first → IsAlike home table first one

-- ---- enumerations, and the sets behind them

-- what the same unit declares next
abbrev pub next_key : Key → Key
next_key key = record { unit = key.unit; number = key.number + 1 }

-- behind an ordinal type of an enumeration stands what its unit declares next
abbrev pub AreFollowed : Table → Type 0
AreFollowed table = (number : ℕ) (low high : ℤ) (key : Key) → slice_get table.types number ≡ Some (type.Ordinal host.Enumeration low high) → slice_get (keys_of table) number ≡ Some key
    → slice_get (keys_of table) (number + 1) ≡ Some (next_key key)

-- and what a unit declares behind an ordinal type of an enumeration stands in a table with this type alone
abbrev pub AreFronted : List Interface → Table → Type 0
AreFronted have table = (number place : ℕ) (key : Key) (home : Table) (low high : ℤ) → slice_get (keys_of table) number ≡ Some (next_key key) → home_of have key.unit ≡ Some home
    → slice_get (keys_of home) place ≡ Some key → slice_get home.types place ≡ Some (type.Ordinal host.Enumeration low high) → Stands (keys_of table) key

-- ---- closed tables

-- each type has its origin, and names types of the table alone
pub record IsWellScopedTable (table : Table) : Type 0 where
  pub paired : length table.origins ≡ length table.types
  pub types : (by : ℕ) → AreBelow (length table.types) (with_type by (slice_get table.types by))

-- the tables by which the types of units are known are closed
abbrev pub AreWellScopedHomes : List Interface → Type 0
AreWellScopedHomes have = (unit : List ℕ) (home : Table) → home_of have unit ≡ Some home → IsWellScopedTable home

-- ---- tables and interfaces

-- a table of what interfaces tell
pub record IsConsistent (have : List Interface) (table : Table) : Type 0 where
  pub keyed : IsKeyed table
  pub alike : AreAlike have table
  pub followed : AreFollowed table
  pub fronted : AreFronted have table

-- An interface that tells nothing else than the interfaces of the units that declare its types; its types stand behind their parts, and
-- are not too large.
pub record IsConsistentInterface (have : List Interface) (i : Interface) : Type 0 where
  pub told : IsConsistent have i.types
  pub at_home : AreAtHome have i.types
  pub closed : IsWellScopedInterface i
  pub defined : AllDefined [] i.types.types
  pub fits : All (λ (layout : Layout). layout.size ≤ 65520) (layouts_of i.types.types)

-- ---- the table of a unit that is read

-- a type of another unit
abbrev pub IsOther : List ℕ → Key → Type 0
IsOther name key = key.unit ≡ name → ⊥

abbrev pub AreOthersAlike : List Interface → List ℕ → Table → Type 0
AreOthersAlike have name table = (number place : ℕ) (key : Key) (home : Table) (first one : TypeDef) → IsOther name key → slice_get (keys_of table) number ≡ Some key
    → slice_get table.types number ≡ Some one → home_of have key.unit ≡ Some home → slice_get (keys_of home) place ≡ Some key → slice_get home.types place ≡ Some first
    → IsAlike home table first one

abbrev pub AreOthersFronted : List Interface → List ℕ → Table → Type 0
AreOthersFronted have name table = (number place : ℕ) (key : Key) (home : Table) (low high : ℤ) → IsOther name key → slice_get (keys_of table) number ≡ Some (next_key key)
    → home_of have key.unit ≡ Some home → slice_get (keys_of home) place ≡ Some key → slice_get home.types place ≡ Some (type.Ordinal host.Enumeration low high)
    → Stands (keys_of table) key

abbrev pub AreOthersAtHome : List Interface → List ℕ → Table → Type 0
AreOthersAtHome have name table = (number : ℕ) (key : Key) → IsOther name key → slice_get (keys_of table) number ≡ Some key → IsAtHome have key

-- A table that tells of the types of other units what their interfaces tell; those of the unit itself are told by the unit alone.
pub record IsConsistentWithOthers (have : List Interface) (name : List ℕ) (table : Table) : Type 0 where
  pub keyed : IsKeyed table
  pub alike : AreOthersAlike have name table
  pub followed : AreFollowed table
  pub fronted : AreOthersFronted have name table
  pub at_home : AreOthersAtHome have name table
