-- Programs whose units are well-formed and agree with one another.
use Rattle.std.specs.Prelude.{◌≡◌, ℕ, ◌<◌, ◌^◌, Bool, true, false, List, [], length, get_or, slice_get, Option, Some, None, is_some, All, Ok}
use Rattle.std.specs.List.{list_all}
use Rattle.well_formed.specs.type_layout.declared.definitions.TypeId.{TypeId}
use Rattle.well_formed.specs.type_layout.declared.definitions.Field.{Field}
use Rattle.well_formed.specs.type_layout.declared.definitions.Kind.{Kind}
use Rattle.well_formed.specs.type_layout.declared.definitions.Kind.TheVariants as kind
use Rattle.well_formed.specs.type_layout.declared.definitions.Method.{Method}
use Rattle.well_formed.specs.type_layout.declared.definitions.TypeDef.{TypeDef}
use Rattle.well_formed.specs.type_layout.declared.definitions.TypeDef.TheVariants as type
use Rattle.well_formed.specs.type_layout.Layouts.{given_by}
use Rattle.well_formed.specs.type_layout.Table.{Table}
use Rattle.well_formed.specs.typed_tree.declared.units.Global.{Global}
use Rattle.well_formed.specs.typed_tree.declared.units.Routine.{Routine}
use Rattle.well_formed.specs.typed_tree.declared.units.Unit.{Unit as TypedUnit}
use Rattle.well_formed.specs.typed_tree.declared.units.Program.{Program}
use Rattle.well_formed.specs.typed_tree.Statements.{view_stmt}
use Rattle.well_formed.specs.typed_tree.type_fits.Routines.{variables_of}
use Rattle.well_formed.specs.WellFormed.{IsWellFormed, scope_in}
use Rattle.store_typing.specs.tp_meaning.Trees.{Key}
use Rattle.store_typing.specs.tp_meaning.Shapes.{parts_at, class_place}
use Rattle.store_typing.specs.tp_meaning.Programs.{Sort, class_key, method_in, is_overlay}
use Rattle.store_typing.specs.tp_meaning.Activations.{Callee, callee_of}
use Rattle.well_formed.specs.object_vmt.Members.{members_of, members_in}
use Rattle.well_formed.specs.object_vmt.Slots.{method_at}
use Rattle.store_typing.specs.types.Declared.{DeclaredHeader, declared, declared_header}
use Rattle.store_typing.specs.types.Agreement.{IsUnit, IsKnown, AreConsistent, IsOfLine}
use Rattle.store_typing.specs.standard.Laws.{HasClasses}
use Rattle.program_typing.specs.programs.Statements.{RefersStatement}

-- ---- routines

-- An object type has a place for the class of its instances.
abbrev pub HasClassPart : Table → Option TypeId → Type 0
HasClassPart table None = Unit {0}
HasClassPart table (Some owner) = is_some (class_place (parts_at table.types owner)) ≡ true

-- what is called for an instance with a class: a constructor or a destructor
abbrev pub NeedsClass : Kind → Type 0
NeedsClass kind.Constructor = Unit {0}
NeedsClass kind.Destructor = Unit {0}
NeedsClass kind.Procedure = ⊥
NeedsClass kind.Function = ⊥

-- Variables that `with`s are told apart from, methods that are declared in no other routine, and constructors and destructors of types
-- whose instances have a class.
pub record IsSoundRoutine (unit : TypedUnit) (routine : Routine) : Type 0 where
  pub few : length (variables_of routine) < 2 ^ 31
  pub method : is_some routine.owner ≡ true → routine.outer ≡ None
  pub class : NeedsClass routine.header.kind → HasClassPart unit.types routine.owner

-- ---- methods by class

-- the method of a type in a slot
abbrev pub slot_method : Sort → ℕ → Option Method
slot_method sort slot = method_at (members_in (members_of sort.table.types) sort.ty) slot

-- a method of what was declared somewhere, with a header
pub record IsMethod (program : Program) (key : Key) (class : Sort) (header : DeclaredHeader) : Type 0 where
  pub callee : Callee
  pub found : callee_of program key ≡ Ok callee
  pub listed : IsUnit program callee.unit
  pub same : header ≡ declared_header callee.unit.types callee.routine.header
  pub owner : TypeId
  pub owned : callee.routine.owner ≡ Some owner
  pub line : IsOfLine class (declared callee.unit.types owner)

-- what a class has in a slot is a method with the header that any type on its line gives it, and of the class or an ancestor
pub record HasMethods (program : Program) : Type 0 where
  pub methods : (own seen class : Sort) (slot : ℕ) (method : Method) (key : Key) → IsKnown program own → IsKnown program seen → IsKnown program class
      → IsOfLine own (class_key seen) → IsOfLine own (class_key class) → slot_method seen slot ≡ Some method → method_in slot class ≡ Some key
      → IsMethod program key class (declared_header seen.table method.header)

-- ---- first values

-- a type without objects in it
abbrev pub plain_in : List Bool → TypeId → Bool
plain_in plains ty = get_or plains ty.0 true

abbrev pub plain_by : List TypeDef → List Bool → TypeDef → Bool
plain_by types plains (type.ObjectOf parent dynamic fields methods) = false
plain_by types plains (type.ArrayOf index element) = plain_in plains element
plain_by types plains (type.RecordOf fields) = list_all (λ (field : Field). plain_in plains field.ty) fields
plain_by types plains (type.Ordinal host low high) = true
plain_by types plains (type.Str max) = true
plain_by types plains (type.SetOf base) = true
plain_by types plains (type.PointerTo target) = true
plain_by types plains (type.Procedural header) = true

abbrev pub is_plain : List TypeDef → TypeId → Bool
is_plain types ty = plain_in (given_by plain_by [] [] types) ty

-- what a global begins with is bytes, and no object
abbrev pub IsFirstOf : List TypeDef → TypeId → Option (List ℕ) → Type 0
IsFirstOf types ty None = Unit {0}
IsFirstOf types ty (Some bytes) = (is_plain types ty ≡ true) × All (λ byte. byte < 256) bytes

abbrev pub HasFirst : TypedUnit → Global → Type 0
HasFirst unit global = IsFirstOf unit.types.types global.ty global.first

-- ---- programs

-- a unit of a program: it is found by its name, which is not that of the unit Overlay, and is well-formed
pub record IsSoundUnit (program : Program) (unit : TypedUnit) : Type 0 where
  pub own : is_overlay unit.name ≡ false
  pub well_formed : IsWellFormed unit
  pub globals : All (HasFirst unit) unit.globals
  pub routines : (number : ℕ) (routine : Routine) → slice_get unit.routines number ≡ Some routine → IsSoundRoutine unit routine
  -- what its trees refer to is as they say
  pub refers : (number : ℕ) (routine : Routine) (is : slice_get unit.routines number ≡ Some routine)
      → RefersStatement (record { program = program; unit = unit; number = number }) (scope_in well_formed.others unit number) (view_stmt routine.body) (well_formed.routines number routine is).body

-- Each unit is well-formed, and what it says of the others is so.
pub record IsWellTyped (program : Program) : Type 0 where
  pub listed : All (IsUnit program) program.units
  pub units : (unit : TypedUnit) → IsUnit program unit → IsSoundUnit program unit
  pub agreed : AreConsistent program
  pub classes : HasClasses program
  pub methods : HasMethods program
