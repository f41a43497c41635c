-- What the trees of a unit refer to beyond what its own tables say: routines and globals of other units, methods that are called by
-- class, and routines that are declared inside others.
use Rattle.std.specs.Prelude.{◌≡◌, ◌⊎◌, ℕ, true, false, List, [], ◌∷◌, Option, Some, None, is_some, Ok}
use Rattle.well_formed.specs.type_layout.declared.definitions.TypeId.{TypeId}
use Rattle.well_formed.specs.type_layout.declared.definitions.RoutineId.{RoutineId}
use Rattle.well_formed.specs.type_layout.declared.definitions.Param.{Param}
use Rattle.well_formed.specs.type_layout.declared.definitions.Header.{Header}
use Rattle.well_formed.specs.type_layout.declared.definitions.Method.{Method}
use Rattle.well_formed.specs.type_layout.Table.{IsObject}
use Rattle.well_formed.specs.typed_tree.declared.units.Unit.{Unit as TypedUnit}
use Rattle.well_formed.specs.typed_tree.declared.units.Program.{Program}
use Rattle.well_formed.specs.typed_tree.Expressions.{Expression, Place, Receiver, Elements, Arguments, Const, RoutineValue, Load, Unary, Binary, Convert, Range, SetOf, Call, CallVirtual, CallThrough, Std, Make, Var, Deref, Index, FieldOf, NoReceiver, Own, NoElements, One, Span, NoArguments, ByValue, ByPlace}
use Rattle.well_formed.specs.Scopes.{Scope}
use Rattle.well_formed.specs.typed_tree.type_fits.Standard.{Slot, Text, Integer}
use Rattle.well_formed.specs.Typed.{IsTyped, HasPlace, TakeEach, FillEach, AreTypedElements}
use Rattle.store_typing.specs.tp_meaning.Trees.{Key}
use Rattle.store_typing.specs.tp_meaning.Shapes.{parts_at, class_place}
use Rattle.store_typing.specs.tp_meaning.Programs.{definition, sort_in, routine_key, is_overlay}
use Rattle.store_typing.specs.tp_meaning.Activations.{Callee, callee_of}
use Rattle.well_formed.specs.object_vmt.Members.{members_of, members_in}
use Rattle.well_formed.specs.object_vmt.Slots.{method_at}
use Rattle.store_typing.specs.types.Declared.{declared, declared_header}
use Rattle.store_typing.specs.types.Agreement.{IsUnit, IsOfLine}
use Rattle.store_typing.specs.stores.Worlds.{IsCode}
use Rattle.program_typing.specs.lvalues.Frames.{NamesGlobal}
use Rattle.program_typing.specs.calls.Laws.{IsRound}

-- where a tree stands: in the routine with a number of a unit of a program
pub record Site : Type 0 where
  pub program : Program
  pub unit : TypedUnit
  pub number : ℕ

-- ---- routines

-- a routine may be called from a site if it is declared in no other, or in one that is round the site
abbrev pub IsVisible : Site → TypedUnit → Option ℕ → Type 0
IsVisible site unit None = Unit {0}
IsVisible site unit (Some outer) = (unit ≡ site.unit) × IsRound site.unit.routines outer site.number

-- The routine that a key leads to, which has a header of the site's own table, whatever unit declares it.
pub record Names (site : Site) (key : Key) (header : Header) (callee : Callee) : Type 0 where
  pub found : callee_of site.program key ≡ Ok callee
  pub listed : IsUnit site.program callee.unit
  pub visible : IsVisible site callee.unit callee.routine.outer
  pub same : declared_header site.unit.types header ≡ declared_header callee.unit.types callee.routine.header

-- an object type of the site that is what owns a routine, or descends from it
pub record IsOwned (site : Site) (class : TypeId) (callee : Callee) : Type 0 where
  pub object : IsObject (definition (sort_in site.unit class))
  pub owner : TypeId
  pub owned : callee.routine.owner ≡ Some owner
  pub line : IsOfLine (sort_in site.unit class) (declared callee.unit.types owner)

-- a routine of a source, for an instance and with arguments
pub record CallsRoutine (site : Site) (key : Key) (IsInstance : Callee → Type 0) (Takes : Header → Type 0) : Type 0 where
  pub header : Header
  pub callee : Callee
  pub names : Names site key header callee
  pub instance : IsInstance callee
  pub takes : Takes header

-- the same of a routine by its number in the site's unit
pub record CallsNumber (site : Site) (routine : RoutineId) (IsInstance : Callee → Type 0) (Takes : Header → Type 0) : Type 0 where
  pub key : Key
  pub is : routine_key site.unit routine ≡ Some key
  pub own : is_overlay key.unit ≡ false
  pub calls : CallsRoutine site key IsInstance Takes

-- OvrInit, OvrSetBuf and OvrClearBuf
pub data IsOverlayRoutine : ℕ → List Slot → Type 0 where
  init : IsOverlayRoutine 0 (Text ∷ [])
  set_buffer : IsOverlayRoutine 1 (Integer ∷ [])
  clear : IsOverlayRoutine 2 []

-- a routine of the unit Overlay, which no source has
pub record CallsOverlay (site : Site) (routine : RoutineId) (Fills : List Slot → Type 0) : Type 0 where
  pub key : Key
  pub is : routine_key site.unit routine ≡ Some key
  pub own : is_overlay key.unit ≡ true
  pub slots : List Slot
  pub one : IsOverlayRoutine key.number slots
  pub fills : Fills slots

-- a method that is called by class: the type has a place for the class, and its own method takes the arguments
pub record CallsSlot (site : Site) (class : TypeId) (slot : ℕ) (Takes : Header → Type 0) : Type 0 where
  pub part : is_some (class_place (parts_at site.unit.types.types class)) ≡ true
  pub method : Method
  pub is : method_at (members_in (members_of site.unit.types.types) class) slot ≡ Some method
  pub takes : Takes method.header

-- ---- expressions

pub record NamesCode (site : Site) (routine : RoutineId) (header : Header) : Type 0 where
  pub key : Key
  pub is : routine_key site.unit routine ≡ Some key
  pub code : IsCode site.program (declared_header site.unit.types header) key

-- Each node beside how it is typed.
abbrev mutual
  pub Refers : (site : Site) (s : Scope) (e : Expression) → IsTyped s e → Type 0
  Refers site s (Const ty value) h = Unit {0}
  Refers site s (RoutineValue ty routine) h = NamesCode site routine h.0
  Refers site s (Load ty from) h = RefersPlace site s from ty h.1
  Refers site s (Unary ty op operand) h = Refers site s operand h.0
  Refers site s (Binary ty op left right early) h = Refers site s left h.0 × Refers site s right h.1
  Refers site s (Convert ty operand) h = Refers site s operand h.0
  Refers site s (Range ty operand low high) h = Refers site s operand h.0
  Refers site s (SetOf ty elements) h = RefersElements site s h.0 elements h.2
  Refers site s (Call ty routine own args) h =
      CallsNumber site routine (λ callee. RefersInstance site s own callee)
      (λ header. (header.result ≡ ty) × ((takes : TakeEach s header.params args) × RefersTaken site s header.params args takes))
      ⊎ (ty ≡ None) × (own ≡ NoReceiver)
      × CallsOverlay site routine (λ slots. (fills : FillEach s slots args) × RefersFilled site s slots args fills)
  Refers site s (CallVirtual ty own slot checked args) h =
      RefersPlace site s own h.1.0 h.1.2
      × CallsSlot site h.1.0 slot
      (λ header. (header.result ≡ ty) × ((takes : TakeEach s header.params args) × RefersTaken site s header.params args takes))
  Refers site s (CallThrough ty through args) h =
      RefersPlace site s through h.1.0 h.1.4 × RefersTaken site s h.1.1.params args h.1.5
  Refers site s (Std ty number args) h = RefersFilled site s h.1.0 args h.1.3
  Refers site s (Make ty routine args) h =
      CallsNumber site routine (λ callee. IsOwned site h.0 callee)
      (λ header. (takes : TakeEach s header.params args) × RefersTaken site s header.params args takes)

  pub RefersPlace : (site : Site) (s : Scope) (at : Place) (ty : TypeId) → HasPlace s at ty → Type 0
  RefersPlace site s (Var variable) ty h = NamesGlobal site.program site.unit variable ty
  RefersPlace site s (Deref pointer) ty h = Refers site s pointer h.1
  RefersPlace site s (Index at index checked) ty h = RefersPlace site s at h.1.0 h.1.1 × Refers site s index h.1.2
  RefersPlace site s (FieldOf at number) ty h = RefersPlace site s at h.1.0 h.1.1

  -- the instance of a routine that is called: a place of what owns it, or of a descendant
  pub RefersInstance : (site : Site) (s : Scope) (own : Receiver) (callee : Callee) → Type 0
  RefersInstance site s NoReceiver callee = callee.routine.owner ≡ None
  RefersInstance site s (Own at) callee = (class : TypeId) × IsOwned site class callee × ((has : HasPlace s at class) × RefersPlace site s at class has)

  pub RefersElements : (site : Site) (s : Scope) (base : TypeId) (elements : Elements) → AreTypedElements s base elements → Type 0
  RefersElements site s base NoElements h = Unit {0}
  RefersElements site s base (One one rest) h = Refers site s one h.0 × RefersElements site s base rest h.2
  RefersElements site s base (Span low high rest) h =
      Refers site s low h.0 × Refers site s high h.2 × RefersElements site s base rest h.4

  pub RefersTaken : (site : Site) (s : Scope) (params : List Param) (args : Arguments) → TakeEach s params args → Type 0
  RefersTaken site s [] NoArguments h = Unit {0}
  RefersTaken site s (param ∷ params) (ByValue value rest) h = Refers site s value h.1 × RefersTaken site s params rest h.3
  RefersTaken site s (param ∷ params) (ByPlace at rest) h = RefersPlace site s at h.1.0 h.1.1 × RefersTaken site s params rest h.2
  RefersTaken site s params args h = ⊥

  pub RefersFilled : (site : Site) (s : Scope) (slots : List Slot) (args : Arguments) → FillEach s slots args → Type 0
  RefersFilled site s [] NoArguments h = Unit {0}
  RefersFilled site s (slot ∷ slots) (ByValue value rest) h = Refers site s value h.0 × RefersFilled site s slots rest h.2
  RefersFilled site s (slot ∷ slots) (ByPlace at rest) h = RefersPlace site s at h.0.0 h.0.1 × RefersFilled site s slots rest h.1
  RefersFilled site s slots args h = ⊥
