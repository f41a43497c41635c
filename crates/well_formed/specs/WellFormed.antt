-- What later parts may rely on in a unit: each number in it names something, and each node has the type that its parts
-- give it. What other units declare is known here only by what the unit supposes of them.
use Rattle.std.specs.Prelude.{◌≡◌, ◌⊎◌, ℕ, zero, suc, ◌<◌, ◌≤◌, ◌≤ℤ◌, All, true, List, [], ◌∷◌, ◌++◌, length, map, Option, Some, None, is_some, slice_get}
use Rattle.type_layout.specs.declared.definitions.TypeId.{TypeId}
use Rattle.type_layout.specs.declared.definitions.Param.{Param}
use Rattle.type_layout.specs.declared.definitions.Header.{Header}
use Rattle.type_layout.specs.declared.definitions.Kind.TheVariants as kind
use Rattle.type_layout.specs.declared.definitions.TypeDef.{TypeDef}
use Rattle.type_layout.specs.declared.definitions.TypeDef.TheVariants as type
use Rattle.type_layout.specs.Layouts.{size_of}
use Rattle.typed_tree.specs.declared.expressions.Variable.{Variable}
use Rattle.typed_tree.specs.declared.statements.LabelRange.{LabelRange}
use Rattle.typed_tree.specs.declared.statements.Destructor.{Destructor}
use Rattle.typed_tree.specs.declared.statements.Destructor.TheVariants as destructor
use Rattle.typed_tree.specs.declared.units.Global.{Global}
use Rattle.typed_tree.specs.declared.units.Item.{Item}
use Rattle.typed_tree.specs.declared.units.Item.TheVariants as item
use Rattle.typed_tree.specs.declared.units.Routine.{Routine}
use Rattle.typed_tree.specs.declared.units.Unit.{Unit as TypedUnit}
use Rattle.typed_tree.specs.Expressions.{Expression, Place, Arguments, Call, CallVirtual, CallThrough, Std}
use Rattle.typed_tree.specs.Statements.{Statement, Statements, Arms, Written, Taken, Assign, CopyAll, Run, If, While, Repeat, Block, Case, For, With, WriteItems, ReadItems, Halt, Exit, Unmake, NoStatements, Then, NoArms, Branch, view_stmt}
use Rattle.typed_tree.specs.type_fits.Fits.{definition, family_of, IsSome, IsInteger, IsBoolean, IsObject, IsRecord, IsStructured, IsReadable, IsWritable, AreStoredAlike, AreSameHeaders, Descends, IsValue}
use Rattle.typed_tree.specs.type_fits.Routines.{HasInitial}
use Rattle.well_formed.specs.Scopes.{Prototype, Others, Scope, HasType, HasResult, HasVariable, HasRoutine, around_from, levels_from}
use Rattle.well_formed.specs.Typed.{IsTyped, HasPlace, Takes, TakeEach, SlotFits, sort_of}

-- ---- statements

abbrev pub IsCondition : Scope → Expression → Type 0
IsCondition s e = IsTyped s e × IsBoolean (sort_of s.types e)

abbrev pub IsCount : Scope → Expression → Type 0
IsCount s e = IsTyped s e × IsInteger (sort_of s.types e)

abbrev pub IsCall : Expression → Type 0
IsCall (Call ty routine own args) = Unit {0}
IsCall (CallVirtual ty own slot checked args) = Unit {0}
IsCall (CallThrough ty through args) = Unit {0}
IsCall (Std ty number args) = Unit {0}
IsCall _ = ⊥

abbrev pub IsWidth : Scope → Option Expression → Type 0
IsWidth s None = Unit {0}
IsWidth s (Some width) = IsCount s width

pub record IsWritten (s : Scope) (item : Written) : Type 0 where
  pub value : IsTyped s item.value
  pub sort : IsWritable (sort_of s.types item.value)
  pub width : IsWidth s item.width

pub record IsTaken (s : Scope) (item : Taken) : Type 0 where
  pub place : HasPlace s item.at item.ty
  pub sort : IsReadable (definition s.types item.ty)

-- what a value may be assigned to by itself; a record, array or object is copied
pub record IsAssignment (s : Scope) (at : Place) (value : Expression) : Type 0 where
  pub ty : TypeId
  pub place : HasPlace s at ty
  pub simple : IsStructured (definition s.types ty) → ⊥
  pub typed : IsTyped s value
  pub takes : Takes s.types ty value

pub record IsCopy (s : Scope) (to from : Place) : Type 0 where
  pub ty : TypeId
  pub given : TypeId
  pub target : HasPlace s to ty
  pub source : HasPlace s from given
  pub structured : IsStructured (definition s.types ty)
  pub joins : Descends s.types given ty

-- an ordinal variable of the unit or of the routine itself, and bounds that are stored like it
pub record IsCounted (s : Scope) (variable : Variable) (ty : TypeId) (from to : Expression) : Type 0 where
  pub has : HasVariable s variable ty
  pub near : variable.level ≤ 1
  pub first : IsTyped s from
  pub first_like : AreStoredAlike (definition s.types ty) (sort_of s.types from)
  pub last : IsTyped s to
  pub last_like : AreStoredAlike (definition s.types ty) (sort_of s.types to)

abbrev pub IsLabelled : LabelRange → Type 0
IsLabelled label = label.low ≤ℤ label.high

pub record IsDestructorOf (types : List TypeDef) (class : TypeId) (one : Prototype) : Type 0 where
  pub kind : one.header.kind ≡ kind.Destructor
  pub owner : TypeId
  pub owned : one.owner ≡ Some owner
  pub inherited : Descends types class owner

-- a destructor of the type or of an ancestor, or one in a slot of the class, which takes the arguments
abbrev pub IsDestructor : Scope → TypeId → Destructor → Arguments → Type 0
IsDestructor s class (destructor.Routine routine) args =
    HasRoutine (λ one. IsDestructorOf s.types class one × TakeEach s one.header.params args) s routine
IsDestructor s class (destructor.Slot slot checked) args = SlotFits s.types class slot (λ header. TakeEach s header.params args)

pub record IsUnmade (s : Scope) (pointer : Expression) (with : Destructor) (args : Arguments) : Type 0 where
  pub class : TypeId
  pub typed : IsTyped s pointer
  pub points : sort_of s.types pointer ≡ Some (type.PointerTo class)
  pub object : IsObject (definition s.types class)
  pub destructor : IsDestructor s class with args

-- inside a `with` over a place of this type
abbrev pub within : Scope → TypeId → Scope
within s ty = record s { withs = s.withs ++ ty ∷ [] }

abbrev mutual
  pub IsStatement : Scope → Statement → Type 0
  IsStatement s (Assign at value) = IsAssignment s at value
  IsStatement s (CopyAll to from) = IsCopy s to from
  IsStatement s (Run call) = IsTyped s call × IsCall call
  IsStatement s (If condition taken otherwise) = IsCondition s condition × IsStatement s taken × IsStatement s otherwise
  IsStatement s (While condition body) = IsCondition s condition × IsStatement s body
  IsStatement s (Repeat body condition) = IsStatement s body × IsCondition s condition
  IsStatement s (Block statements) = AreStatements s statements
  IsStatement s (Case selector arms other) =
      IsTyped s selector × IsSome (family_of (sort_of s.types selector)) × AreArms s arms × IsStatement s other
  IsStatement s (For variable ty from to down checked body) = IsCounted s variable ty from to × IsStatement s body
  IsStatement s (With at body) =
      (ty : TypeId) × HasPlace s at ty × (IsRecord (definition s.types ty) ⊎ IsObject (definition s.types ty)) × IsStatement (within s ty) body
  IsStatement s (WriteItems items line) = All (IsWritten s) items
  IsStatement s (ReadItems items line) = All (IsTaken s) items
  IsStatement s (Halt code) = IsCount s code
  IsStatement s Exit = Unit {0}
  IsStatement s (Unmake pointer with args) = IsUnmade s pointer with args

  pub AreStatements : Scope → Statements → Type 0
  AreStatements s NoStatements = Unit {0}
  AreStatements s (Then one rest) = IsStatement s one × AreStatements s rest

  pub AreArms : Scope → Arms → Type 0
  AreArms s NoArms = Unit {0}
  AreArms s (Branch labels body rest) = All IsLabelled labels × IsStatement s body × AreArms s rest

-- ---- routines and units

-- what a node outside all routines may name, which is of no other unit
abbrev pub scope_of : TypedUnit → Scope
scope_of unit = record {
  types = unit.types.types;
  others = record { units = []; globals = []; routines = [] };
  globals = map (λ (global : Global). global.ty) unit.globals;
  routines = unit.routines;
  around = [];
  levels = [];
  withs = [];
}

abbrev pub scope_in : Others → TypedUnit → ℕ → Scope
scope_in others unit number = record (scope_of unit) {
  others = others;
  around = around_from unit.routines (suc number) (Some number);
  levels = levels_from unit.routines (suc number) (Some number);
}

-- a routine that is declared inside another has a greater number
abbrev pub IsInside : ℕ → Option ℕ → Type 0
IsInside number None = Unit {0}
IsInside number (Some outer) = outer < number

abbrev pub IsOwner : Scope → Option TypeId → Type 0
IsOwner s None = Unit {0}
IsOwner s (Some owner) = IsObject (definition s.types owner)

pub record IsRoutine (others : Others) (unit : TypedUnit) (number : ℕ) (routine : Routine) : Type 0 where
  pub params : All (λ (param : Param). HasType (scope_of unit) param.ty) routine.header.params
  pub result : HasResult (scope_of unit) routine.header.result
  pub function : is_some routine.header.result ≡ true → routine.header.kind ≡ kind.Function
  pub owner : IsOwner (scope_of unit) routine.owner
  pub outer : IsInside number routine.outer
  pub locals : All (HasType (scope_of unit)) routine.locals
  pub body : IsStatement (scope_in others unit number) (view_stmt routine.body)

-- the bytes of a first value are as many as the type's size
abbrev pub IsFirst : ℕ → Option (List ℕ) → Type 0
IsFirst size None = Unit {0}
IsFirst size (Some bytes) = length bytes ≡ size

pub record IsOfUnit (unit : TypedUnit) (global : Global) : Type 0 where
  pub has : HasType (scope_of unit) global.ty
  pub first : IsFirst (size_of unit.types.types global.ty) global.first

pub record IsHeaderOf (header : Header) (routine : Routine) : Type 0 where
  pub same : AreSameHeaders header routine.header
  pub outermost : routine.outer ≡ None
  pub free : routine.owner ≡ None

abbrev pub IsItem : TypedUnit → Item → Type 0
IsItem unit (item.Const name ty value) = IsValue unit.types.types value (definition unit.types.types ty)
IsItem unit (item.Ty name ty) = HasType (scope_of unit) ty
IsItem unit (item.Var name ty number) = slice_get (scope_of unit).globals number ≡ Some ty
IsItem unit (item.Code name header number) = (routine : Routine) × (slice_get unit.routines number ≡ Some routine) × IsHeaderOf header routine

-- A unit whose trees name what is there, where other units have what it supposes of them.
pub record IsWellFormed (unit : TypedUnit) : Type 0 where
  pub others : Others
  -- the first name is that of the unit
  pub named : slice_get unit.names 0 ≡ Some unit.name
  pub globals : All (IsOfUnit unit) unit.globals
  pub routines : (number : ℕ) (routine : Routine) → slice_get unit.routines number ≡ Some routine → IsRoutine others unit number routine
  pub items : All (IsItem unit) unit.items
  pub initial : HasInitial unit.routines unit.initial
