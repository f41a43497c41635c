-- What each unit keeps of the methods that it declares, so that all agree on what answers a slot.
use Rattle.std.specs.Prelude.{◌≡◌, ℕ, Bool, List, Option, Some, slice_get}
use Rattle.type_soundness.specs.type_layout.declared.definitions.TypeId.{TypeId}
use Rattle.type_soundness.specs.type_layout.declared.definitions.Field.{Field}
use Rattle.type_soundness.specs.type_layout.declared.definitions.Method.{Method}
use Rattle.type_soundness.specs.type_layout.declared.definitions.TypeDef.TheVariants as type
use Rattle.type_soundness.specs.typed_tree.declared.units.Unit.{Unit as TypedUnit}
use Rattle.type_soundness.specs.typed_tree.declared.units.Program.{Program}
use Rattle.type_soundness.specs.object_vmt.Dispatch.{AnswersAlike}
use Rattle.type_soundness.specs.tp_meaning.Trees.{Key}
use Rattle.type_soundness.specs.tp_meaning.Programs.{Sort, definition, method_key}
use Rattle.type_soundness.specs.store_typing.types.Declared.{declared_header}
use Rattle.type_soundness.specs.store_typing.types.Agreement.{IsUnit, IsKnown}
use Rattle.type_soundness.specs.program_typing.programs.WellTyped.{IsMethod}

pub record HasLawfulMethods (program : Program) : Type 0 where
  -- in each table a method that overrides another has its header
  pub answers : (unit : TypedUnit) → IsUnit program unit → AnswersAlike unit.types.types
  -- each method that a type itself declares is a routine of the program, for instances of that type
  pub routines : (class : Sort) (parent : Option TypeId) (dynamic : Bool) (fields : List Field) (methods : List Method) (place : ℕ) (method : Method) (key : Key) → IsKnown program class
      → definition class ≡ Some (type.ObjectOf parent dynamic fields methods) → slice_get methods place ≡ Some method → method_key class.table method ≡ Some key
      → IsMethod program key class (declared_header class.table method.header)
