-- What a unit supposes of others, where it is so in a program.
use Rattle.std.specs.Prelude.{◌≡◌, ◌⊎◌, ◌≤◌, true, false, List, [], ◌∷◌, Option, Some, None, Ok, slice_get}
use Rattle.std.specs.Option.{option_map}
use Rattle.type_soundness.specs.type_layout.declared.definitions.TypeId.{TypeId}
use Rattle.type_soundness.specs.type_layout.declared.definitions.Param.{Param}
use Rattle.type_soundness.specs.type_layout.declared.definitions.TypeDef.{TypeDef}
use Rattle.type_soundness.specs.type_layout.Table.{Table}
use Rattle.type_soundness.specs.typed_tree.declared.units.Unit.{Unit as TypedUnit}
use Rattle.type_soundness.specs.typed_tree.declared.units.Program.{Program}
use Rattle.type_soundness.specs.typed_tree.type_fits.Fits.{definition}
use Rattle.type_soundness.specs.typed_tree.type_fits.Standard.{Slot, FitsValue}
use Rattle.type_soundness.specs.well_formed.Scopes.{IsOneOf, Prototype, OtherUnit, OtherGlobal, OtherRoutine, Others}
use Rattle.type_soundness.specs.tp_meaning.Trees.{Key}
use Rattle.type_soundness.specs.tp_meaning.Programs.{routine_key, is_overlay}
use Rattle.type_soundness.specs.tp_meaning.Activations.{Callee, callee_of}
use Rattle.type_soundness.specs.store_typing.types.Declared.{declared, declared_header}
use Rattle.type_soundness.specs.store_typing.types.Agreement.{IsUnit}
use Rattle.type_soundness.specs.program_typing.lvalues.Frames.{IsGlobalOf}
use Rattle.type_soundness.specs.program_typing.programs.References.{IsOverlayRoutine}

-- ---- routines

-- the type of the instances of a method, whatever table has it
abbrev pub declared_owner : Table → Option TypeId → Option (Option Key)
declared_owner table owner = option_map (declared table) owner

-- A routine of a unit of the program, as it is seen: it is declared in no other, and has this header and this type of instances.
pub record IsOfSource (program : Program) (unit : TypedUnit) (key : Key) (seen : Prototype) : Type 0 where
  pub own : is_overlay key.unit ≡ false
  pub callee : Callee
  pub found : callee_of program key ≡ Ok callee
  pub listed : IsUnit program callee.unit
  pub outermost : callee.routine.outer ≡ None
  pub header : declared_header unit.types seen.header ≡ declared_header callee.unit.types callee.routine.header
  pub owner : declared_owner unit.types seen.owner ≡ declared_owner callee.unit.types callee.routine.owner

-- parameters by value, each of a type that a slot takes
abbrev pub AreSlotsOf : List TypeDef → List Slot → List Param → Type 0
AreSlotsOf types [] [] = Unit {0}
AreSlotsOf types (slot ∷ slots) (param ∷ params) = (param.by_ref ≡ false) × FitsValue slot (definition types param.ty) × AreSlotsOf types slots params
AreSlotsOf types _ _ = ⊥

-- a routine of the unit Overlay, as it is seen
pub record IsOfOverlay (unit : TypedUnit) (key : Key) (seen : Prototype) : Type 0 where
  pub own : is_overlay key.unit ≡ true
  pub slots : List Slot
  pub one : IsOverlayRoutine key.number slots
  pub takes : AreSlotsOf unit.types.types slots seen.header.params
  pub bare : seen.header.result ≡ None
  pub free : seen.owner ≡ None

pub record IsRoutineHeld (program : Program) (unit : TypedUnit) (one : OtherRoutine) : Type 0 where
  pub key : Key
  pub is : routine_key unit one.routine ≡ Some key
  pub kept : IsOfSource program unit key one.seen ⊎ IsOfOverlay unit key one.seen

-- ---- the whole

-- What a unit supposes of its own variables and routines isn't asked for: its trees name these by what it has.
pub record AreHeld (program : Program) (unit : TypedUnit) (others : Others) : Type 0 where
  pub units : (one : OtherUnit) → IsOneOf one others.units → slice_get unit.names one.number ≡ Some one.name
  pub globals : (one : OtherGlobal) → IsOneOf one others.globals → 1 ≤ one.unit → IsGlobalOf program unit one.unit one.number one.ty
  pub routines : (one : OtherRoutine) → IsOneOf one others.routines → 1 ≤ one.routine.unit → IsRoutineHeld program unit one
