-- Expressions and places stay typed.
use Rattle.std.proofs.Common.{◌≡◌, inl, inr, ℕ, zero, suc, ◌-◌, List, [], ◌∷◌, ◌++◌, Option, Some, None, refl, sym, subst, ◌∙◌}
use Rattle.std.specs.Prelude.{slice_get}
use Rattle.std.specs.Option.{option_and_then}
use Rattle.type_layout.specs.declared.definitions.TypeId.{TypeId}
use Rattle.type_layout.specs.declared.definitions.RoutineId.{RoutineId}
use Rattle.type_layout.specs.declared.definitions.Host.{Host}
use Rattle.type_layout.specs.declared.definitions.Host.TheVariants as host
use Rattle.type_layout.specs.declared.definitions.Param.{Param}
use Rattle.type_layout.specs.declared.definitions.Header.{Header}
use Rattle.type_layout.specs.declared.definitions.TypeDef.{TypeDef}
use Rattle.type_layout.specs.declared.definitions.TypeDef.TheVariants as type
use Rattle.typed_tree.specs.declared.expressions.Variable.{Variable}
use Rattle.typed_tree.specs.declared.expressions.Value.TheVariants as value
use Rattle.typed_tree.specs.declared.units.Routine.{Routine}
use Rattle.typed_tree.specs.Expressions.{type_of, Expression, Place, Receiver, Elements, Arguments, Const, RoutineValue, Load, Unary, Binary, Convert, Range, SetOf, Call, CallVirtual, CallThrough, Std, Make, Var, Deref, Index, FieldOf, NoReceiver, Own, NoElements, One, Span, NoArguments, ByValue, ByPlace}
use Rattle.typed_tree.specs.type_fits.Fits.{definition, stored_as, family_of, IsSome, IsBoolean, IsChar, AreOfOneFamily, AreStoredAlike, IsWide, IsString, IsPointer, IsObject, Descends, field_type, IsValue}
use Rattle.typed_tree.specs.type_fits.Standard.{Slot, FitsValue, FitsVariable, Outcome, Gives, HoldsAll, HoldsValue, HoldsFirst, IsLikeFirst, Nothing, Wide, Holding, Alike, Truth, Letter, Byte, Small, Size, Line, Link}
use Rattle.well_formed.specs.Scopes.{Prototype, prototype, Scope, HasType, HasResult, HasVariable, IsOfSource, IsGlobal, IsVariableAt, IsRoutineAt, HasRoutine, IsWithin}
use Rattle.typed_tree.specs.type_fits.Operators.{FitsUnary, FitsBinary, MayBeEarly, IsConversion}
use Rattle.well_formed.specs.Typed.{IsTyped, HasPlace, IsOwn, TakeEach, FillEach, AreTypedElements, sort_of, PointsTo, IsElement, JoinsSome, Takes, IsRoutineValue, IsConstructorOf, IsMember, CallFits, MakeFits, SlotFits}
use Rattle.object_vmt.specs.Members.{Members, members_of, members_in}
use Rattle.object_vmt.specs.Slots.{method_at}
use Rattle.well_formed.specs.Laws.{HaveTypes}
use Rattle.well_formed.specs.weakening.Weakening.{IsSame, Weakens}
use Rattle.well_formed.proofs.weakening.Types.{within_some, some_of, more_kept, more_descends, more_field, more_members, more_value, more_joins}

same_prototype : (one other : Routine) → IsSame one other → prototype one ≡ prototype other
same_prototype one other same =
    let header = same.header in
    let owner = same.owner in
    let outer = same.outer in
    let far = same.far in
    cc

module _ (have : HaveTypes) (s t : Scope) (w : Weakens s t) where
  -- what holds over the types of the first and others holds over those of the second
  over : (P : List TypeDef → Type 0) → P (s.types ++ w.types.0) → P t.types
  over P h = subst P (sym w.types.1) h

  -- ---- types

  pub kept : (ty : TypeId) → IsSome (definition s.types ty) → definition t.types ty ≡ definition s.types ty
  kept ty h = over (λ (x : List TypeDef). definition x ty ≡ definition s.types ty) (more_kept s.types w.types.0 ty h)

  -- what is asked of a type, where the table has it
  pub asked : (P : Option TypeDef → Type 0) (ty : TypeId) → IsSome (definition s.types ty) → P (definition s.types ty) → P (definition t.types ty)
  asked P ty h p = subst P (sym (kept ty h)) p

  pub has_type : (ty : TypeId) → HasType s ty → HasType t ty
  has_type ty h = asked (λ (d : Option TypeDef). IsSome d) ty h h

  pub defined : (ty : TypeId) (one : TypeDef) → definition s.types ty ≡ Some one → definition t.types ty ≡ Some one
  defined ty one e = kept ty (some_of (definition s.types ty) one e) ∙ e

  pub has_result : (ty : Option TypeId) → HasResult s ty → HasResult t ty
  has_result None h = tt
  has_result (Some ty) h = has_type ty h

  pub descends : (ty above : TypeId) → Descends s.types ty above → Descends t.types ty above
  descends ty above h = over (λ (x : List TypeDef). Descends x ty above) (more_descends s.types w.types.0 ty above h)

  object_some : (d : Option TypeDef) → IsObject d → IsSome d
  object_some (Some one) h = tt
  object_some None h = absurd h

  pub is_object : (ty : TypeId) → IsObject (definition s.types ty) → IsObject (definition t.types ty)
  is_object ty h = asked (λ (d : Option TypeDef). IsObject d) ty (object_some (definition s.types ty) h) h

  field : (of ty : TypeId) (number : ℕ) → HasType s of → field_type s.types of number ≡ Some ty → field_type t.types of number ≡ Some ty
  field of ty number h e = over (λ (x : List TypeDef). field_type x of number ≡ Some ty) (more_field s.types w.types.0 of ty number (within_some s.types of.0 h) e)

  sort_by : (o : Option TypeId) → (IsSome o → IsSome (option_and_then (definition s.types) o)) → option_and_then (definition t.types) o ≡ option_and_then (definition s.types) o
  sort_by None h = refl
  sort_by (Some ty) h = kept ty (h tt)

  -- the type of a typed expression
  pub sort : (e : Expression) → IsTyped s e → sort_of t.types e ≡ sort_of s.types e
  sort e h = sort_by (type_of e) (have s e h)

  pub sorted : (P : Option TypeDef → Type 0) (e : Expression) → IsTyped s e → P (sort_of s.types e) → P (sort_of t.types e)
  sorted P e h p = subst P (sym (sort e h)) p

  takes_by : (ty : TypeId) (o : Option TypeId) → (IsSome o → IsSome (option_and_then (definition s.types) o)) → JoinsSome s.types ty o → JoinsSome t.types ty o
  takes_by ty None some h = absurd h
  takes_by ty (Some given) some h = over (λ (x : List TypeDef). JoinsSome x ty (Some given)) (more_joins s.types w.types.0 ty given (some tt) h)

  pub takes : (ty : TypeId) (e : Expression) → IsTyped s e → Takes s.types ty e → Takes t.types ty e
  takes ty e h k = takes_by ty (type_of e) (have s e h) k

  -- ---- variables and routines

  global : (unit number : ℕ) (ty : TypeId) → IsGlobal s unit number ty → IsGlobal t unit number ty
  global zero number ty h = w.globals number ty h
  global (suc unit) number ty h = w.others.globals (record { unit = suc unit; number = number; ty = ty }) h

  variable_at : (level unit number : ℕ) (ty : TypeId) → IsVariableAt s level unit number ty → IsVariableAt t level unit number ty
  variable_at zero unit number ty h = global unit number ty h
  variable_at (suc zero) unit number ty (inl h) = inl (w.levels 0 number ty h)
  variable_at (suc zero) unit number ty (inr h) = inr (record { high = h.high; held = subst (λ (all : List TypeId). slice_get all (number - 2147483648) ≡ Some ty) w.withs h.held })
  variable_at (suc (suc links)) unit number ty h = w.levels (suc links) number ty h

  pub variable : (v : Variable) (ty : TypeId) → HasVariable s v ty → HasVariable t v ty
  variable v ty h = (has_type ty h.0, variable_at v.level v.unit v.number ty h.1)

  routine_at : (A B : Prototype → Type 0) (unit number : ℕ) → ((seen : Prototype) → A seen → B seen) → IsRoutineAt A s unit number → IsRoutineAt B t unit number
  routine_at A B zero number f h =
      let other = w.routines number h.0 h.1 in
      (other.0, other.1, subst (λ (x : Prototype). B x) (same_prototype h.0 other.0 other.2) (f (prototype h.0) h.2))
  routine_at A B (suc unit) number f h =
      (h.0, w.others.routines (record { routine = record { unit = suc unit; number = number }; seen = h.0 }) h.1, f h.0 h.2)

  pub routine : (A B : Prototype → Type 0) (one : RoutineId) → ((seen : Prototype) → A seen → B seen) → HasRoutine A s one → HasRoutine B t one
  routine A B one f h = routine_at A B one.unit one.number f h

  of_source : (unit : ℕ) → IsOfSource s unit → IsOfSource t unit
  of_source zero h = tt
  of_source (suc unit) h = (h.0, w.others.units (record { number = suc unit; name = h.0 }) h.1, h.2)

  constructor_of : (class : TypeId) (one : Prototype) → IsConstructorOf s.types class one → IsConstructorOf t.types class one
  constructor_of class one h = record { kind = h.kind; owner = h.owner; owned = h.owned; inherited = descends class h.owner h.inherited }

  -- ---- what standard routines give

  holds_value : (stored : Option Host) (e : Expression) → sort_of t.types e ≡ sort_of s.types e → HoldsValue s.types stored e → HoldsValue t.types stored e
  holds_value None e k h = h
  holds_value (Some stored) (Const ty (value.Number n)) k h = h
  holds_value (Some stored) e k h = subst (λ (d : Option TypeDef). HoldsAll (Some stored) (stored_as d)) (sym k) h

  holds_first : (stored : Option Host) (slots : List Slot) (args : Arguments) → FillEach s slots args → HoldsFirst s.types stored args → HoldsFirst t.types stored args
  holds_first stored (slot ∷ slots) (ByValue e rest) f h = holds_value stored e (sort e f.0) h
  holds_first stored slots (ByPlace at rest) f h = absurd h
  holds_first stored slots NoArguments f h = absurd h
  holds_first stored [] (ByValue e rest) f h = absurd f

  like_first : (one : Option TypeDef) (slots : List Slot) (args : Arguments) → FillEach s slots args → IsLikeFirst s.types one args → IsLikeFirst t.types one args
  like_first one (slot ∷ slots) (ByValue e rest) f h = subst (λ (d : Option TypeDef). AreStoredAlike one d) (sym (sort e f.0)) h
  like_first one slots (ByPlace at rest) f h = absurd h
  like_first one slots NoArguments f h = absurd h
  like_first one [] (ByValue e rest) f h = absurd f

  gives_some : (outcome : Outcome) (ty : TypeId) (slots : List Slot) (args : Arguments) → HasType s ty → FillEach s slots args → Gives s.types outcome (Some ty) args → Gives t.types outcome (Some ty) args
  gives_some Wide ty slots args some f h = asked (λ (d : Option TypeDef). IsWide (stored_as d)) ty some h
  gives_some Holding ty slots args some f h =
      let first = holds_first (stored_as (definition s.types ty)) slots args f h.1 in
      (asked (λ (d : Option TypeDef). IsWide (stored_as d)) ty some h.0, asked (λ (d : Option TypeDef). HoldsFirst t.types (stored_as d) args) ty some first)
  gives_some Alike ty slots args some f h =
      asked (λ (d : Option TypeDef). IsLikeFirst t.types d args) ty some (like_first (definition s.types ty) slots args f h)
  gives_some Truth ty slots args some f h = asked (λ (d : Option TypeDef). IsBoolean d) ty some h
  gives_some Letter ty slots args some f h = asked (λ (d : Option TypeDef). IsChar d) ty some h
  gives_some Byte ty slots args some f h = asked (λ (d : Option TypeDef). stored_as d ≡ Some host.Byte) ty some h
  gives_some Small ty slots args some f h = asked (λ (d : Option TypeDef). stored_as d ≡ Some host.Integer) ty some h
  gives_some Size ty slots args some f h = asked (λ (d : Option TypeDef). stored_as d ≡ Some host.Word) ty some h
  gives_some Line ty slots args some f h = asked (λ (d : Option TypeDef). IsString d) ty some h
  gives_some Link ty slots args some f h = asked (λ (d : Option TypeDef). IsPointer d) ty some h
  gives_some Nothing ty slots args some f h = absurd h

  gives : (outcome : Outcome) (ty : Option TypeId) (slots : List Slot) (args : Arguments) → HasResult s ty → FillEach s slots args → Gives s.types outcome ty args → Gives t.types outcome ty args
  gives Nothing None slots args some f h = tt
  gives outcome (Some ty) slots args some f h = gives_some outcome ty slots args some f h
  gives outcome None slots args some f h = absurd h

  -- ---- what calls ask

  is_within : (outer : Option ℕ) → IsWithin s.around outer → IsWithin t.around outer
  is_within None h = tt
  is_within (Some outer) h = w.around outer h

  call_fits : (one : RoutineId) (ty : Option TypeId) (O P : Option TypeId → Type 0) (T U : List Param → Type 0) → ((o : Option TypeId) → O o → P o) → ((params : List Param) → T params → U params)
      → CallFits s one ty O T → CallFits t one ty P U
  call_fits one ty O P T U own take h =
      let A : Prototype → Type 0 = λ (seen : Prototype). (seen.header.result ≡ ty) × (seen.owner ≡ None → IsWithin s.around seen.outer) × O seen.owner × T seen.header.params in
      let B : Prototype → Type 0 = λ (seen : Prototype). (seen.header.result ≡ ty) × (seen.owner ≡ None → IsWithin t.around seen.outer) × P seen.owner × U seen.header.params in
      routine A B one (λ seen k. (k.0, λ free. is_within seen.outer (k.1 free), own seen.owner k.2, take seen.header.params k.3)) h

  make_fits : (class : TypeId) (one : RoutineId) (T U : List Param → Type 0) → ((params : List Param) → T params → U params) → MakeFits s class one T → MakeFits t class one U
  make_fits class one T U take h =
      let A : Prototype → Type 0 = λ (seen : Prototype). IsConstructorOf s.types class seen × T seen.header.params in
      let B : Prototype → Type 0 = λ (seen : Prototype). IsConstructorOf t.types class seen × U seen.header.params in
      routine A B one (λ seen k. (constructor_of class seen k.0, take seen.header.params k.1)) h

  members : (class : TypeId) → IsObject (definition s.types class) → members_in (members_of t.types) class ≡ members_in (members_of s.types) class
  members class h =
      over (λ (x : List TypeDef). members_in (members_of x) class ≡ members_in (members_of s.types) class)
      (more_members s.types w.types.0 class (within_some s.types class.0 (object_some (definition s.types class) h)))

  pub slot_fits : (class : TypeId) (slot : ℕ) (T U : Header → Type 0) → IsObject (definition s.types class) → ((header : Header) → T header → U header) → SlotFits s.types class slot T → SlotFits t.types class slot U
  slot_fits class slot T U object f h =
      let there = subst (λ (m : Members). method_at m slot ≡ Some h.0) (sym (members class object)) h.1 in
      (h.0, there, f h.0.header h.2)

  -- ---- parts of places and sets

  family_some : (d : Option TypeDef) → IsSome (family_of d) → IsSome d
  family_some (Some one) h = tt
  family_some None h = absurd h

  element_by : (ty : TypeId) (d at : Option TypeDef) → HasType s ty → IsElement s.types ty d at → IsElement t.types ty d at
  element_by ty (Some (type.ArrayOf index element)) at some h =
      let like = h.1 in
      (h.0, asked (λ (d : Option TypeDef). AreOfOneFamily d at) index (family_some (definition s.types index) like.ordinal) like)
  element_by ty (Some (type.Str max)) at some h = (asked (λ (d : Option TypeDef). IsChar d) ty some h.0, h.1)
  element_by ty d at some h = absurd h

  element : (of ty : TypeId) (i : Expression) → HasType s of → HasType s ty → IsTyped s i → IsElement s.types ty (definition s.types of) (sort_of s.types i)
      → IsElement t.types ty (definition t.types of) (sort_of t.types i)
  element of ty i there some typed h =
      asked (λ (d : Option TypeDef). IsElement t.types ty d (sort_of t.types i)) of there
      (sorted (λ (d : Option TypeDef). IsElement t.types ty (definition s.types of) d) i typed (element_by ty (definition s.types of) (sort_of s.types i) some h))

  member : (base : TypeId) (e : Expression) → IsTyped s e → IsMember s.types base e → IsMember t.types base e
  member base e typed h =
      asked (λ (d : Option TypeDef). AreOfOneFamily d (sort_of t.types e)) base (family_some (definition s.types base) h.ordinal)
      (sorted (λ (d : Option TypeDef). AreOfOneFamily (definition s.types base) d) e typed h)

  pub place_type : (at : Place) (ty : TypeId) → HasPlace s at ty → HasType s ty
  place_type (Var v) ty h = h.0
  place_type (Deref pointer) ty h = h.0
  place_type (Index at i checked) ty h = h.0
  place_type (FieldOf at number) ty h = h.0

  -- ---- trees

  mutual
    pub typed : (e : Expression) → IsTyped s e → IsTyped t e
    typed (Const ty v) h = over (λ (x : List TypeDef). IsValue x v (definition x ty)) (more_value s.types w.types.0 w.defined v ty h)
    typed (RoutineValue ty one) h = (h.0, defined ty (type.Procedural h.0) h.1, routine (IsRoutineValue h.0) (IsRoutineValue h.0) one (λ seen k. k) h.2, of_source one.unit h.3)
    typed (Load ty from) h = (has_type ty h.0, place from ty h.1)
    typed (Unary ty op a) h =
        let some = have s (Unary ty op a) h tt in
        (typed a h.0, asked (λ (d : Option TypeDef). FitsUnary op d (sort_of t.types a)) ty some (sorted (λ (d : Option TypeDef). FitsUnary op (definition s.types ty) d) a h.0 h.1))
    typed (Binary ty op l r early) h =
        let some = have s (Binary ty op l r early) h tt in
        let left = sorted (λ (d : Option TypeDef). FitsBinary op (definition s.types ty) d (sort_of s.types r)) l h.0 h.2 in
        let both = sorted (λ (d : Option TypeDef). FitsBinary op (definition s.types ty) (sort_of t.types l) d) r h.1 left in
        (typed l h.0, typed r h.1, asked (λ (d : Option TypeDef). FitsBinary op d (sort_of t.types l) (sort_of t.types r)) ty some both, asked (λ (d : Option TypeDef). MayBeEarly op early d) ty some h.3)
    typed (Convert ty a) h =
        let some = have s (Convert ty a) h tt in
        (typed a h.0, asked (λ (d : Option TypeDef). IsConversion d (sort_of t.types a)) ty some (sorted (λ (d : Option TypeDef). IsConversion (definition s.types ty) d) a h.0 h.1))
    typed (Range ty a low high) h =
        let some = have s (Range ty a low high) h tt in
        (typed a h.0, h.1, asked (λ (d : Option TypeDef). IsSome (stored_as d)) ty some h.2, h.3)
    typed (SetOf ty es) h = (h.0, defined ty (type.SetOf h.0) h.1, elements es h.0 h.2)
    typed (Call ty one own args) h = (
      has_result ty h.0,
      call_fits one ty (λ o. IsOwn s o own) (λ o. IsOwn t o own) (λ params. TakeEach s params args) (λ params. TakeEach t params args)
          (λ o k. instance own o k) (λ params k. taken args params k) h.1,
    )
    typed (CallVirtual ty own slot checked args) h =
        let on = h.1 in
        let T : Header → Type 0 = λ (header : Header). (header.result ≡ ty) × TakeEach s header.params args in
        let U : Header → Type 0 = λ (header : Header). (header.result ≡ ty) × TakeEach t header.params args in
        (has_result ty h.0, (on.0, is_object on.0 on.1, place own on.0 on.2, slot_fits on.0 slot T U on.1 (λ header k. (k.0, taken args header.params k.1)) on.3))
    typed (CallThrough ty through args) h =
        let on = h.1 in
        let header : Header = on.1 in
        (has_result ty h.0, (on.0, on.1, defined on.0 (type.Procedural on.1) on.2, on.3, place through on.0 on.4, taken args header.params on.5))
    typed (Std ty number args) h =
        let on = h.1 in
        (has_result ty h.0, (on.0, on.1, on.2, filled args on.0 on.3, gives on.1 ty on.0 args h.0 on.3 on.4))
    typed (Make ty one args) h = (
      h.0,
      defined ty (type.PointerTo h.0) h.1,
      is_object h.0 h.2,
      make_fits h.0 one (λ params. TakeEach s params args) (λ params. TakeEach t params args) (λ params k. taken args params k) h.3,
    )

    pub place : (at : Place) (ty : TypeId) → HasPlace s at ty → HasPlace t at ty
    place (Var v) ty h = variable v ty h
    place (Deref pointer) ty h = (has_type ty h.0, typed pointer h.1, sorted (λ (d : Option TypeDef). PointsTo ty d) pointer h.1 h.2)
    place (Index at i checked) ty h =
        let on = h.1 in
        (has_type ty h.0, (on.0, place at on.0 on.1, typed i on.2, element on.0 ty i (place_type at on.0 on.1) h.0 on.2 on.3))
    place (FieldOf at number) ty h =
        let on = h.1 in
        (has_type ty h.0, (on.0, place at on.0 on.1, field on.0 ty number (place_type at on.0 on.1) on.2))

    instance : (own : Receiver) (o : Option TypeId) → IsOwn s o own → IsOwn t o own
    instance NoReceiver None h = tt
    instance (Own at) (Some owner) h = (h.0, place at h.0 h.1, descends h.0 owner h.2)
    instance NoReceiver (Some owner) h = absurd h
    instance (Own at) None h = absurd h

    pub taken : (args : Arguments) (params : List Param) → TakeEach s params args → TakeEach t params args
    taken NoArguments [] h = tt
    taken (ByValue v rest) (param ∷ params) h = (h.0, typed v h.1, takes param.ty v h.1 h.2, taken rest params h.3)
    taken (ByPlace at rest) (param ∷ params) h =
        let first = h.1 in
        (h.0, (first.0, place at first.0 first.1, descends first.0 param.ty first.2), taken rest params h.2)
    taken NoArguments (param ∷ params) h = absurd h
    taken (ByValue v rest) [] h = absurd h
    taken (ByPlace at rest) [] h = absurd h

    filled : (args : Arguments) (slots : List Slot) → FillEach s slots args → FillEach t slots args
    filled NoArguments [] h = tt
    filled (ByValue v rest) (slot ∷ slots) h = (typed v h.0, sorted (λ (d : Option TypeDef). FitsValue slot d) v h.0 h.1, filled rest slots h.2)
    filled (ByPlace at rest) (slot ∷ slots) h =
        let first = h.0 in
        ((first.0, place at first.0 first.1, asked (λ (d : Option TypeDef). FitsVariable slot d) first.0 (place_type at first.0 first.1) first.2), filled rest slots h.1)
    filled NoArguments (slot ∷ slots) h = absurd h
    filled (ByValue v rest) [] h = absurd h
    filled (ByPlace at rest) [] h = absurd h

    elements : (es : Elements) (base : TypeId) → AreTypedElements s base es → AreTypedElements t base es
    elements NoElements base h = tt
    elements (One e rest) base h = (typed e h.0, member base e h.0 h.1, elements rest base h.2)
    elements (Span low high rest) base h = (typed low h.0, member base low h.0 h.1, typed high h.2, member base high h.2 h.3, elements rest base h.4)
