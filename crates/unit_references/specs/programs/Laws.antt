-- What is never seen of a program of one unit.
use Rattle.std.specs.Prelude.{◌≡◌, ℕ, Bool, List, Option, Some, slice_get}
use Rattle.type_soundness.specs.type_layout.declared.definitions.TypeId.{TypeId}
use Rattle.type_soundness.specs.type_layout.declared.definitions.Field.{Field}
use Rattle.type_soundness.specs.type_layout.declared.definitions.Method.{Method}
use Rattle.type_soundness.specs.type_layout.declared.definitions.TypeDef.TheVariants as type
use Rattle.type_soundness.specs.typed_tree.declared.units.Routine.{Routine}
use Rattle.type_soundness.specs.typed_tree.declared.units.Unit.{Unit as TypedUnit}
use Rattle.type_soundness.specs.typed_tree.declared.units.Program.{Program}
use Rattle.type_soundness.specs.object_vmt.Dispatch.{AnswersAlike}
use Rattle.type_soundness.specs.typed_tree.type_fits.Fits.{AreSameHeaders}
use Rattle.type_soundness.specs.tp_meaning.Trees.{Key}
use Rattle.type_soundness.specs.tp_meaning.Meaning.{IsNeverStopped}
use Rattle.type_soundness.specs.tp_meaning.ShownCalls.{Boxed}
use Rattle.type_soundness.specs.store_typing.types.Declared.{declared}
use Rattle.type_soundness.specs.program_typing.programs.Example.{counting, counting_program}
use Rattle.type_soundness.specs.store_typing.units.Laws.{IsSingle}
use Rattle.unit_references.specs.Units.{HasSoundParts, AreMarked, IsSupported}

-- a program of one well-formed unit that has sound parts, and supposes of others what is so
pub record IsAlone (program : Program) (unit : TypedUnit) : Type 0 where
  pub single : IsSingle program unit
  pub parts : HasSoundParts unit
  pub marked : AreMarked unit.types.types
  pub supported : IsSupported program unit

-- a method that a type of the unit declares is one of its routines, for instances of the type
pub record IsOwnMethod (unit : TypedUnit) (class : TypeId) (method : Method) : Type 0 where
  pub named : slice_get unit.types.units method.routine.unit ≡ Some unit.name
  pub routine : Routine
  pub is : slice_get unit.routines method.routine.number ≡ Some routine
  pub same : AreSameHeaders method.header routine.header
  pub owned : routine.owner ≡ Some class

pub record DeclaresItsTypes (unit : TypedUnit) : Type 0 where
  -- each type was declared by the unit itself
  pub origins : (ty : TypeId) (key : Key) → declared unit.types ty ≡ Some key → key.unit ≡ unit.name
  -- a method that overrides another has its header
  pub answers : AnswersAlike unit.types.types
  pub methods : (class : TypeId) (parent : Option TypeId) (dynamic : Bool) (fields : List Field) (methods : List Method) (place : ℕ) (method : Method) → slice_get unit.types.types class.0 ≡ Some (type.ObjectOf parent dynamic fields methods)
      → slice_get methods place ≡ Some method → IsOwnMethod unit class method

-- On no input of bytes does a program of one such unit come to an ill-typed step.
abbrev pub AloneNeverStops : Type 0
AloneNeverStops = (program : Program) (unit : TypedUnit) → IsAlone program unit → DeclaresItsTypes unit → IsNeverStopped program

-- What is asked of such a unit can be met: a program that adds 1 to its variable has one.
abbrev pub CanBeAlone : Type 0
CanBeAlone = (b : Boxed) → IsAlone (counting_program b) (counting b) × DeclaresItsTypes (counting b)
