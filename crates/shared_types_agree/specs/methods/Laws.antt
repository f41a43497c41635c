-- When the methods of a program answer as its classes say.
use Rattle.std.specs.Prelude.{◌≡◌, ℕ, All, List, Some, slice_get}
use Rattle.unit_references.specs.type_layout.declared.definitions.TypeId.{TypeId}
use Rattle.unit_references.specs.type_layout.declared.definitions.Method.{Method}
use Rattle.interfaces_consistent.specs.tp_outside.Folder.{Folder}
use Rattle.units_well_formed.specs.tp_lexer.declared.token.Text.{Text}
use Rattle.interfaces_consistent.specs.source_graph.declared.sources.Source.{Source}
use Rattle.interfaces_consistent.specs.source_graph.Walk.{Gathers}
use Rattle.unit_references.specs.typed_tree.declared.units.Routine.{Routine}
use Rattle.unit_references.specs.typed_tree.declared.units.Unit.{Unit as TypedUnit}
use Rattle.unit_references.specs.typed_tree.declared.units.Program.{Program}
use Rattle.unit_references.specs.typed_tree.type_fits.Fits.{definition}
use Rattle.unit_references.specs.object_vmt.Dispatch.{IsLawful, AnswersAlike}
use Rattle.units_well_formed.specs.call_rules.method_rules.Slots.{methods_of}
use Rattle.unit_references.specs.store_typing.types.Agreement.{IsUnit}
use Rattle.unit_references.specs.program_typing.programs.WellTyped.{HasMethods}
use Rattle.unit_references.specs.methods.Laws.{HasLawfulMethods}
use Rattle.shared_types_agree.specs.programs.Laws.{IsKeptTable}
use Rattle.shared_types_agree.specs.programs.Below.{IsProgram}

-- Where no rule on fields and overrides fails in a table, a method that overrides another has its header.
abbrev pub AnswersLaw : Type 0
AnswersLaw = (unit : TypedUnit) → IsLawful unit.types.types → AnswersAlike unit.types.types

-- the routine that a method has in its unit: under the method's number, with its header, for instances of its type
pub record IsOwnMethod (unit : TypedUnit) (class : TypeId) (method : Method) : Type 0 where
  pub routine : Routine
  pub is : slice_get unit.routines method.routine.number ≡ Some routine
  pub header : routine.header ≡ method.header
  pub owned : routine.owner ≡ Some class

-- each method of the unit itself has one
pub record HasOwnMethods (unit : TypedUnit) : Type 0 where
  pub methods : (class : TypeId) (place : ℕ) (method : Method) → slice_get (methods_of (definition unit.types.types class)) place ≡ Some method
      → slice_get unit.types.units method.routine.unit ≡ Some unit.name → IsOwnMethod unit class method

-- So it is in each unit of a program that sources give.
abbrev pub OwnMethodsLaw : Type 0
OwnMethodsLaw = (held : Folder) (name : List ℕ) (texts : List Text) (sources : List Source) → Gathers held name texts sources
    → (program : Program) → IsProgram sources program → (unit : TypedUnit) → IsUnit program unit → HasOwnMethods unit

-- In such a program overriding keeps to the rule, and each method that a type declares is a routine, for instances of that type.
abbrev pub LawfulLaw : Type 0
LawfulLaw = (held : Folder) (name : List ℕ) (texts : List Text) (sources : List Source) → Gathers held name texts sources
    → (program : Program) → IsProgram sources program → All (λ (unit : TypedUnit). IsKeptTable unit.types) program.units → HasLawfulMethods program

-- So what a class has in a slot is a method with the header that each type of its line gives it.
abbrev pub MethodsLaw : Type 0
MethodsLaw = (held : Folder) (name : List ℕ) (texts : List Text) (sources : List Source) → Gathers held name texts sources
    → (program : Program) → IsProgram sources program → All (λ (unit : TypedUnit). IsKeptTable unit.types) program.units → HasMethods program
