-- The units that declare the object types of a program.
use Rattle.std.specs.Prelude.{◌≡◌, Some}
use Rattle.tp_meaning.specs.type_layout.declared.definitions.TypeId.{TypeId}
use Rattle.tp_meaning.specs.type_layout.Table.{IsObject}
use Rattle.tp_meaning.specs.typed_tree.declared.units.Unit.{Unit as TypedUnit}
use Rattle.tp_meaning.specs.typed_tree.declared.units.Program.{Program}
use Rattle.tp_meaning.specs.Trees.{Key}
use Rattle.tp_meaning.specs.Programs.{Sort, definition, class_key}
use Rattle.store_typing.specs.types.Declared.{declared}
use Rattle.store_typing.specs.types.Agreement.{IsUnit, IsKnown}

-- a unit of the program has in its own table what a key names of it
pub record IsDeclared (program : Program) (class : Key) : Type 0 where
  pub unit : TypedUnit
  pub listed : IsUnit program unit
  pub named : class.unit ≡ unit.name
  pub ty : TypeId
  pub is : declared unit.types ty ≡ Some class

-- so it is for each object type of a unit
pub record HasDeclarers (program : Program) : Type 0 where
  pub declarers : (sort : Sort) (class : Key) → IsKnown program sort → IsObject (definition sort) → class_key sort ≡ Some class → IsDeclared program class
