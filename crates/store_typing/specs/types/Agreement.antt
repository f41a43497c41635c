-- Units of a program that agree on the types that they share.
use Rattle.std.specs.Prelude.{◌≡◌, ℕ, ◌<◌, length, slice_get, Option, Some}
use Rattle.tp_meaning.specs.type_layout.declared.definitions.TypeId.{TypeId}
use Rattle.tp_meaning.specs.type_layout.declared.definitions.TypeDef.{TypeDef}
use Rattle.tp_meaning.specs.type_layout.declared.definitions.TypeDef.TheVariants as type
use Rattle.tp_meaning.specs.type_layout.Table.{Table, IsWellFormed}
use Rattle.tp_meaning.specs.typed_tree.declared.units.Unit.{Unit as TypedUnit}
use Rattle.tp_meaning.specs.typed_tree.declared.units.Program.{Program}
use Rattle.tp_meaning.specs.typed_tree.type_fits.Fits.{ancestor}
use Rattle.tp_meaning.specs.Trees.{Key}
use Rattle.tp_meaning.specs.Programs.{Sort, definition, class_key, unit_named}
use Rattle.store_typing.specs.types.Declared.{declared, AreAlike}

-- a unit of the program, which is found by its name
abbrev pub IsUnit : Program → TypedUnit → Type 0
IsUnit program unit = unit_named program unit.name ≡ Some unit

-- a type of the table of a unit of the program
pub record IsKnown (program : Program) (sort : Sort) : Type 0 where
  pub unit : TypedUnit
  pub listed : IsUnit program unit
  pub table : sort.table ≡ unit.types
  pub one : TypeDef
  pub is : definition sort ≡ Some one

-- the size of a string type is told by a byte
abbrev pub IsShort : TypeDef → Type 0
IsShort (type.Str max) = max < 256
IsShort one = Unit {0}

pub record IsLawful (table : Table) : Type 0 where
  pub well_formed : IsWellFormed table
  pub short : (k : ℕ) (one : TypeDef) → slice_get table.types k ≡ Some one → IsShort one
  -- what pointers point to is in the table
  pub targets : (k : ℕ) (target : TypeId) → slice_get table.types k ≡ Some (type.PointerTo target) → target.0 < length table.types

-- each unit's table is lawful, and types that were declared at one place are alike
pub record AreConsistent (program : Program) : Type 0 where
  pub lawful : (unit : TypedUnit) → IsUnit program unit → IsLawful unit.types
  pub alike : (a b : Sort) (one other : TypeDef) → IsKnown program a → IsKnown program b → definition a ≡ Some one → definition b ≡ Some other → class_key a ≡ class_key b
      → AreAlike a.table one b.table other

-- the type is what was declared there, or a descendant of it
pub record IsOfLine (one : Sort) (above : Option Key) : Type 0 where
  pub steps : ℕ
  pub ty : TypeId
  pub reached : ancestor one.table.types steps one.ty ≡ Some ty
  pub same : declared one.table ty ≡ above
