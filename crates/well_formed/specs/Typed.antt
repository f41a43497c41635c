-- When each number in a tree names something, and each node has the type that its parts give it.
use Rattle.std.specs.Prelude.{◌≡◌, ◌⊎◌, ℕ, ◌≤ℤ◌, true, false, List, [], ◌∷◌, Option, Some, None}
use Rattle.type_layout.specs.declared.definitions.TypeId.{TypeId}
use Rattle.type_layout.specs.declared.definitions.RoutineId.{RoutineId}
use Rattle.type_layout.specs.declared.definitions.Param.{Param}
use Rattle.type_layout.specs.declared.definitions.Header.{Header}
use Rattle.type_layout.specs.declared.definitions.Method.{Method}
use Rattle.type_layout.specs.declared.definitions.Kind.TheVariants as kind
use Rattle.type_layout.specs.declared.definitions.TypeDef.{TypeDef}
use Rattle.type_layout.specs.declared.definitions.TypeDef.TheVariants as type
use Rattle.typed_tree.specs.Expressions.{type_of, Expression, Place, Receiver, Elements, Arguments, Const, RoutineValue, Load, Unary, Binary, Convert, Range, SetOf, Call, CallVirtual, CallThrough, Std, Make, Var, Deref, Index, FieldOf, NoReceiver, Own, NoElements, One, Span, NoArguments, ByValue, ByPlace}
use Rattle.typed_tree.specs.type_fits.Fits.{definition, stored_as, IsSome, IsInteger, IsChar, AreOfOneFamily, IsObject, Descends, field_type, AreSameHeaders, Joins, IsValue}
pub use Rattle.typed_tree.specs.type_fits.Standard.{sort_of}
use Rattle.typed_tree.specs.type_fits.Standard.{Slot, FitsValue, FitsVariable, Outcome, Gives, IsStandard}
use Rattle.typed_tree.specs.type_fits.Operators.{FitsUnary, FitsBinary, MayBeEarly, IsConversion}
use Rattle.object_vmt.specs.Members.{members_of, members_in}
use Rattle.object_vmt.specs.Slots.{method_at}
use Rattle.well_formed.specs.Scopes.{Prototype, Scope, HasType, HasResult, IsOfSource, HasVariable, HasRoutine, IsWithin}

-- ---- the parts of places and calls

abbrev pub PointsTo : TypeId → Option TypeDef → Type 0
PointsTo ty (Some (type.PointerTo target)) = target ≡ ty
PointsTo ty _ = ⊥

-- an element of an array, or a character of a string, at an index
abbrev pub IsElement : List TypeDef → TypeId → Option TypeDef → Option TypeDef → Type 0
IsElement types ty (Some (type.ArrayOf index element)) at = (element ≡ ty) × AreOfOneFamily (definition types index) at
IsElement types ty (Some (type.Str max)) at = IsChar (definition types ty) × IsInteger at
IsElement types ty _ at = ⊥

-- what joins the type of an expression
abbrev pub JoinsSome : List TypeDef → TypeId → Option TypeId → Type 0
JoinsSome types ty None = ⊥
JoinsSome types ty (Some given) = Joins types ty given

abbrev pub Takes : List TypeDef → TypeId → Expression → Type 0
Takes types ty e = JoinsSome types ty (type_of e)

-- a routine that may stand as a value of a procedural type: far, no method and not nested
pub record IsRoutineValue (header : Header) (one : Prototype) : Type 0 where
  pub far : one.far ≡ true
  pub free : one.owner ≡ None
  pub outermost : one.outer ≡ None
  pub same : AreSameHeaders header one.header

-- a constructor of the type, or of an ancestor
pub record IsConstructorOf (types : List TypeDef) (class : TypeId) (one : Prototype) : Type 0 where
  pub kind : one.header.kind ≡ kind.Constructor
  pub owner : TypeId
  pub owned : one.owner ≡ Some owner
  pub inherited : Descends types class owner

-- a base holds ordinals of the family of an element
abbrev pub IsMember : List TypeDef → TypeId → Expression → Type 0
IsMember types base e = AreOfOneFamily (definition types base) (sort_of types e)

-- A routine gives the result and takes the arguments; a method takes its instance, and any other is declared in no routine or in one that
-- is round the call.
abbrev pub CallFits : Scope → RoutineId → Option TypeId → (Option TypeId → Type 0) → (List Param → Type 0) → Type 0
CallFits s routine ty OwnFits Take =
    HasRoutine
    (λ one. (one.header.result ≡ ty) × (one.owner ≡ None → IsWithin s.around one.outer) × OwnFits one.owner × Take one.header.params)
    s routine

abbrev pub MakeFits : Scope → TypeId → RoutineId → (List Param → Type 0) → Type 0
MakeFits s class routine Take = HasRoutine (λ one. IsConstructorOf s.types class one × Take one.header.params) s routine

-- the method of a class in a slot is as asked
abbrev pub SlotFits : List TypeDef → TypeId → ℕ → (Header → Type 0) → Type 0
SlotFits types class slot Asked =
    (method : Method) × (method_at (members_in (members_of types) class) slot ≡ Some method) × Asked method.header

abbrev mutual
  pub IsTyped : Scope → Expression → Type 0
  IsTyped s (Const ty value) = IsValue s.types value (definition s.types ty)
  IsTyped s (RoutineValue ty routine) =
      (header : Header) × (definition s.types ty ≡ Some (type.Procedural header)) × HasRoutine (IsRoutineValue header) s routine × IsOfSource s routine.unit
  IsTyped s (Load ty from) = HasType s ty × HasPlace s from ty
  IsTyped s (Unary ty op operand) = IsTyped s operand × FitsUnary op (definition s.types ty) (sort_of s.types operand)
  IsTyped s (Binary ty op left right early) =
      IsTyped s left × IsTyped s right × FitsBinary op (definition s.types ty) (sort_of s.types left) (sort_of s.types right)
      × MayBeEarly op early (definition s.types ty)
  IsTyped s (Convert ty operand) = IsTyped s operand × IsConversion (definition s.types ty) (sort_of s.types operand)
  IsTyped s (Range ty operand low high) =
      IsTyped s operand × (type_of operand ≡ Some ty) × IsSome (stored_as (definition s.types ty)) × (low ≤ℤ high)
  IsTyped s (SetOf ty elements) =
      (base : TypeId) × (definition s.types ty ≡ Some (type.SetOf base)) × AreTypedElements s base elements
  IsTyped s (Call ty routine own args) =
      HasResult s ty × CallFits s routine ty (λ owner. IsOwn s owner own) (λ params. TakeEach s params args)
  IsTyped s (CallVirtual ty own slot checked args) =
      HasResult s ty
      × ((class : TypeId) × IsObject (definition s.types class) × HasPlace s own class
      × SlotFits s.types class slot (λ header. (header.result ≡ ty) × TakeEach s header.params args))
  IsTyped s (CallThrough ty through args) =
      HasResult s ty
      × ((of : TypeId) × (header : Header) × (definition s.types of ≡ Some (type.Procedural header)) × (header.result ≡ ty)
      × HasPlace s through of × TakeEach s header.params args)
  IsTyped s (Std ty number args) =
      HasResult s ty × ((slots : List Slot) × (outcome : Outcome) × IsStandard number slots outcome × FillEach s slots args × Gives s.types outcome ty args)
  IsTyped s (Make ty routine args) =
      (class : TypeId) × (definition s.types ty ≡ Some (type.PointerTo class)) × IsObject (definition s.types class)
      × MakeFits s class routine (λ params. TakeEach s params args)

  -- a place holds values of the type
  pub HasPlace : Scope → Place → TypeId → Type 0
  HasPlace s (Var variable) ty = HasVariable s variable ty
  HasPlace s (Deref pointer) ty = HasType s ty × IsTyped s pointer × PointsTo ty (sort_of s.types pointer)
  HasPlace s (Index at index checked) ty =
      HasType s ty × ((of : TypeId) × HasPlace s at of × IsTyped s index × IsElement s.types ty (definition s.types of) (sort_of s.types index))
  HasPlace s (FieldOf at number) ty = HasType s ty × ((of : TypeId) × HasPlace s at of × (field_type s.types of number ≡ Some ty))

  pub IsOwn : Scope → Option TypeId → Receiver → Type 0
  IsOwn s None NoReceiver = Unit {0}
  IsOwn s (Some owner) (Own own) = (class : TypeId) × HasPlace s own class × Descends s.types class owner
  IsOwn s _ _ = ⊥

  -- as many arguments as parameters, and each of the type of its parameter; a place may be a descendant's
  pub TakeEach : Scope → List Param → Arguments → Type 0
  TakeEach s [] NoArguments = Unit {0}
  TakeEach s (param ∷ params) (ByValue value rest) =
      (param.by_ref ≡ false) × IsTyped s value × Takes s.types param.ty value × TakeEach s params rest
  TakeEach s (param ∷ params) (ByPlace at rest) =
      (param.by_ref ≡ true) × ((ty : TypeId) × HasPlace s at ty × Descends s.types ty param.ty) × TakeEach s params rest
  TakeEach s _ _ = ⊥

  -- as many arguments as a standard routine takes, and each as it takes it
  pub FillEach : Scope → List Slot → Arguments → Type 0
  FillEach s [] NoArguments = Unit {0}
  FillEach s (slot ∷ slots) (ByValue value rest) =
      IsTyped s value × FitsValue slot (sort_of s.types value) × FillEach s slots rest
  FillEach s (slot ∷ slots) (ByPlace at rest) =
      ((ty : TypeId) × HasPlace s at ty × FitsVariable slot (definition s.types ty)) × FillEach s slots rest
  FillEach s _ _ = ⊥

  pub AreTypedElements : Scope → TypeId → Elements → Type 0
  AreTypedElements s base NoElements = Unit {0}
  AreTypedElements s base (One one rest) = IsTyped s one × IsMember s.types base one × AreTypedElements s base rest
  AreTypedElements s base (Span low high rest) =
      IsTyped s low × IsMember s.types base low × IsTyped s high × IsMember s.types base high × AreTypedElements s base rest
