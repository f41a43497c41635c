-- Calls of a typed program that do no ill-typed step.
use Rattle.std.specs.Prelude.{◌≡◌, ℕ, Bool, true, List, map, Option, Some, None, is_some}
use Rattle.std.specs.Option.{option_map}
use Rattle.well_formed.specs.type_layout.declared.definitions.TypeId.{TypeId}
use Rattle.well_formed.specs.type_layout.declared.definitions.Header.{Header}
use Rattle.well_formed.specs.type_layout.declared.definitions.Method.{Method}
use Rattle.well_formed.specs.type_layout.Table.{IsObject}
use Rattle.well_formed.specs.typed_tree.declared.units.Unit.{Unit as TypedUnit}
use Rattle.well_formed.specs.typed_tree.declared.units.Program.{Program}
use Rattle.well_formed.specs.typed_tree.type_fits.Standard.{Slot}
use Rattle.store_typing.specs.tp_meaning.Trees.{Key, Spot, Value}
use Rattle.store_typing.specs.tp_meaning.Shapes.{parts_at, class_place}
use Rattle.store_typing.specs.tp_meaning.Programs.{Sort, definition, sort_in, class_key}
use Rattle.store_typing.specs.tp_meaning.Outcomes.{State, ◌>>=◌}
use Rattle.store_typing.specs.tp_meaning.Activations.{Reached, Activation, Callee}
use Rattle.store_typing.specs.tp_meaning.Calls.{Runs, entered, method_of, overlay_called}
use Rattle.store_typing.specs.tp_meaning.Standard.{Operand, handed}
use Rattle.store_typing.specs.types.Declared.{declared, declared_header}
use Rattle.store_typing.specs.types.Agreement.{IsKnown, IsOfLine}
use Rattle.store_typing.specs.stores.Worlds.{Made, World, IsCode}
use Rattle.store_typing.specs.stores.Places.{IsPlaceOf, IsAt}
use Rattle.store_typing.specs.standard.Operands.{AreOperands, IsResult}
use Rattle.program_typing.specs.lvalues.Frames.{IsActive}
use Rattle.program_typing.specs.calls.Callees.{AreTaken}
use Rattle.program_typing.specs.programs.Outcomes.{IsTypedState, world, Ends}
use Rattle.program_typing.specs.programs.References.{Names, IsOverlayRoutine}
use Rattle.program_typing.specs.programs.WellTyped.{slot_method}

-- ---- instances

-- a constructor that is called for a class is called for that of the place
abbrev pub IsClassGiven : Sort → Option Key → Type 0
IsClassGiven top None = Unit {0}
IsClassGiven top (Some class) = class_key top ≡ Some class

-- an instance of the type that owns a method, or of a descendant
pub record IsInstanceFor (w : World) (unit : TypedUnit) (owner : TypeId) (spot : Spot) (class : Option Key) : Type 0 where
  pub top : Sort
  pub known : IsKnown w.program top
  pub object : IsObject (definition top)
  pub place : IsPlaceOf w spot top
  pub line : IsOfLine top (declared unit.types owner)
  pub given : IsClassGiven top class

-- a method is called with an instance, and no other routine with one
abbrev pub IsInstanceBy : World → TypedUnit → Option TypeId → Option Spot → Option Key → Type 0
IsInstanceBy w unit None None None = Unit {0}
IsInstanceBy w unit (Some owner) (Some spot) class = IsInstanceFor w unit owner spot class
IsInstanceBy w unit owner own class = ⊥

abbrev pub IsInstance : World → Callee → Option Spot → Option Key → Type 0
IsInstance w callee own class = IsInstanceBy w callee.unit callee.routine.owner own class

-- ---- calls

-- what a call gives by its header, as the unit that calls sees it
abbrev pub GivesAs : TypedUnit → Option TypeId → World → Value → Type 0
GivesAs unit result w v = IsResult w (option_map (sort_in unit) result) v

-- The calls that the body of a routine makes, in a world of these objects.
pub record SoundCalls (program : Program) (again : Runs) (made : List Made) (f : Activation) (number : ℕ) (s : State) : Type 0 where
  -- a routine with a header that takes the arguments
  pub named : (key : Key) (header : Header) (callee : Callee) (own : Option Spot) (class : Option Key) (xs : List Value) → Names (record { program = program; unit = f.unit; number = number }) key header callee
      → IsInstance (world program made) callee own class → AreTaken (world program made) f.unit header.params xs
      → Ends (world program made) (GivesAs f.unit header.result) (entered program again f key own class xs s)
  -- a routine that is held by a variable
  pub through : (key : Key) (header : Header) (xs : List Value) → IsCode program (declared_header f.unit.types header) key → AreTaken (world program made) f.unit header.params xs
      → Ends (world program made) (GivesAs f.unit header.result) (entered program again f key None None xs s)
  -- a method by class
  pub by_class : (at : Reached) (class : TypeId) (slot : ℕ) (method : Method) (checked : Bool) (xs : List Value) → IsAt (world program made) at (sort_in f.unit class)
      → is_some (class_place (parts_at f.unit.types.types class)) ≡ true → slot_method (sort_in f.unit class) slot ≡ Some method → AreTaken (world program made) f.unit method.header.params xs
      → Ends (world program made) (GivesAs f.unit method.header.result) ((method_of program at slot checked >>= λ key. entered program again f key (Some at.spot) None xs) s)
  -- a routine of the unit Overlay
  pub overlay : (number : ℕ) (slots : List Slot) (xs : List Operand) → IsOverlayRoutine number slots → AreOperands (world program made) slots xs
      → Ends (world program made) (λ w v. IsResult w None v) (overlay_called program number (map handed xs) s)

-- in every activation of a routine's body, and every typed state
abbrev pub HasSoundCalls : Program → Runs → Type 0
HasSoundCalls program again = (made : List Made) (f : Activation) (number : ℕ) (withs : List TypeId) (s : State) → IsActive (world program made) f number withs → IsTypedState (world program made) s
    → SoundCalls program again made f number s
