-- What a well-typed program asks of each unit beside that it is well-formed.
use Rattle.std.specs.Prelude.{◌≡◌, ℕ, Bool, true, false, All, List, Option, Some, slice_get}
use Rattle.type_soundness.specs.type_layout.declared.definitions.TypeId.{TypeId}
use Rattle.type_soundness.specs.type_layout.declared.definitions.Field.{Field}
use Rattle.type_soundness.specs.type_layout.declared.definitions.Method.{Method}
use Rattle.type_soundness.specs.type_layout.declared.definitions.TypeDef.{TypeDef}
use Rattle.type_soundness.specs.type_layout.declared.definitions.TypeDef.TheVariants as type
use Rattle.type_soundness.specs.typed_tree.declared.units.Routine.{Routine}
use Rattle.type_soundness.specs.typed_tree.declared.units.Unit.{Unit as TypedUnit}
use Rattle.type_soundness.specs.typed_tree.declared.units.Program.{Program}
use Rattle.type_soundness.specs.well_formed.WellFormed.{IsWellFormed}
use Rattle.type_soundness.specs.tp_meaning.Programs.{is_overlay}
use Rattle.type_soundness.specs.store_typing.types.Agreement.{IsUnit, AreConsistent}
use Rattle.type_soundness.specs.program_typing.programs.WellTyped.{IsSoundRoutine, HasFirst}
use Rattle.unit_references.specs.Held.{AreHeld}

-- It has not the name of the unit Overlay; its globals begin with bytes, and with no object; its methods are declared in no other routine,
-- and instances that its constructors and destructors are called for have a class.
pub record HasSoundParts (unit : TypedUnit) : Type 0 where
  pub own : is_overlay unit.name ≡ false
  pub globals : All (HasFirst unit) unit.globals
  pub routines : (number : ℕ) (routine : Routine) → slice_get unit.routines number ≡ Some routine → IsSoundRoutine unit routine

-- an object type that declares a virtual method is dynamic
abbrev pub AreMarked : List TypeDef → Type 0
AreMarked types = (class : TypeId) (parent : Option TypeId) (dynamic : Bool) (fields : List Field) (methods : List Method) (place : ℕ) (method : Method) → slice_get types class.0 ≡ Some (type.ObjectOf parent dynamic fields methods)
    → slice_get methods place ≡ Some method → method.is_virtual ≡ true → dynamic ≡ true

-- a well-formed unit, and what it supposes of others is so
pub record IsSupported (program : Program) (unit : TypedUnit) : Type 0 where
  pub formed : IsWellFormed unit
  pub held : AreHeld program unit formed.others

-- Units that agree with one another, each with sound parts and with suppositions that are so.
pub record HasSoundUnits (program : Program) : Type 0 where
  pub agreed : AreConsistent program
  pub parts : (unit : TypedUnit) → IsUnit program unit → HasSoundParts unit
  pub marked : (unit : TypedUnit) → IsUnit program unit → AreMarked unit.types.types
  pub supported : (unit : TypedUnit) → IsUnit program unit → IsSupported program unit
