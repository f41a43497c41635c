-- Expressions and places of a body.
use Rattle.std.proofs.Common.{◌≡◌, ℕ, ◌==◌, Bool, true, false, if◌then◌else◌, List, [], ◌∷◌, ◌++◌, Some, None, refl, sym, ap, subst, ◌∙◌, arith}
use Rattle.std.proofs.Common.{inl, inr}
use Rattle.std.specs.Prelude.{Option, All, option_and_then}
use Rattle.std.proofs.lemmas.List.Elements.{All-nil}
use Rattle.std.specs.Option.{option_map}
use Rattle.std.proofs.lemmas.Option.{same_Some}
use Rattle.std.proofs.lemmas.Bool.Decides.{nat_tests}
use Rattle.program_typing.specs.type_layout.declared.definitions.TypeId.{TypeId}
use Rattle.program_typing.specs.type_layout.declared.definitions.RoutineId.{RoutineId}
use Rattle.program_typing.specs.type_layout.declared.definitions.Param.{Param}
use Rattle.program_typing.specs.type_layout.declared.definitions.Header.{Header}
use Rattle.program_typing.specs.type_layout.declared.definitions.TypeDef.{TypeDef}
use Rattle.program_typing.specs.type_layout.declared.definitions.TypeDef.TheVariants as type
use Rattle.program_typing.specs.typed_tree.declared.expressions.Variable.{Variable}
use Rattle.program_typing.specs.typed_tree.declared.units.Program.{Program}
use Rattle.program_typing.specs.typed_tree.Expressions.{Expression, Place, Receiver, Elements, Arguments, Const, RoutineValue, Load, Unary, Binary, Convert, Range, SetOf, Call, CallVirtual, CallThrough, Std, Make, Var, Deref, Index, FieldOf, NoReceiver, Own, NoElements, One, Span, NoArguments, ByValue, ByPlace, type_of}
use Rattle.program_typing.specs.typed_tree.type_fits.Fits.{definition as definition_in, IsSome, family_of, AreOfOneFamily, Joins, JoinBy, Descends}
use Rattle.program_typing.specs.well_formed.Scopes.{Others, Scope}
use Rattle.program_typing.specs.typed_tree.type_fits.Standard.{Slot, Text as TextSlot, Outcome as Result, FitsValue, Gives as IsGiven, IsStandard}
use Rattle.program_typing.specs.typed_tree.type_fits.Standard.{sort_of as sort_in_table}
use Rattle.program_typing.specs.typed_tree.type_fits.Operators.{FitsUnary, FitsBinary, IsConversion}
use Rattle.program_typing.specs.typed_tree.Standard as routine
use Rattle.program_typing.specs.well_formed.Typed.{IsTyped, HasPlace, TakeEach, FillEach, AreTypedElements, IsElement, PointsTo, JoinsSome}
use Rattle.program_typing.specs.tp_meaning.Trees.{Key, Value, Code}
use Rattle.program_typing.specs.tp_meaning.Programs.{Sort, definition, sort_in, routine_key}
use Rattle.program_typing.specs.tp_meaning.Outcomes.{State, Outcome, Does, ◌>>=◌, give, known, looked}
use Rattle.program_typing.specs.common_values.Sets.{with_range}
use Rattle.program_typing.specs.tp_meaning.Activations.{Activation, Callee, variable_at, length_held}
use Rattle.program_typing.specs.tp_meaning.Standard.{standard}
use Rattle.program_typing.specs.tp_meaning.Calls.{Runs}
use Rattle.program_typing.specs.tp_meaning.Expressions.{constant_value, standard_done, value, measured, place, receiver, elements, operands, sort_of, no_instance}
use Rattle.program_typing.specs.store_typing.types.Agreement.{IsKnown}
use Rattle.program_typing.specs.store_typing.stores.Worlds.{Made, World, LiesWithin}
use Rattle.program_typing.specs.store_typing.stores.Places.{IsValueOf}
use Rattle.program_typing.proofs.store_typing_proofs.stores.Grown.{grows_by, value_grows}
use Rattle.program_typing.proofs.store_typing_proofs.stores.Sets.{more_lies}
use Rattle.program_typing.specs.lvalues.Frames.{IsActive, NamesGlobal}
use Rattle.program_typing.proofs.lvalues.Variables.{variable_place}
use Rattle.program_typing.specs.programs.Outcomes.{IsTypedState, world, Ends}
use Rattle.program_typing.specs.programs.References.{Site, NamesCode, Refers, RefersPlace, RefersInstance, RefersElements, RefersTaken, RefersFilled}
use Rattle.program_typing.specs.programs.WellTyped.{IsWellTyped}
use Rattle.program_typing.specs.programs.Tasks.{scope_with}
use Rattle.program_typing.specs.programs.Calls.{GivesAs, HasSoundCalls}
use Rattle.program_typing.proofs.programs.Ends.{ends_done, ends_looked, ends_more}
use Rattle.type_soundness.proofs.expressions.Types.{have_types, places_have_types}
use Rattle.type_soundness.proofs.expressions.Sorts.{known_type, HasSort, has_sort, family_some, one_family_some, unary_some, binary_some, conversion_some, value_fits_some}
use Rattle.type_soundness.proofs.expressions.Chains.{Kept}
use Rattle.type_soundness.proofs.expressions.Values.{ValueAt, constant_is, code_is, set_done, unary_ends, converted_ends, ranged_ends, binary_ends, element_ends, span_ends}
use Rattle.type_soundness.proofs.expressions.Places.{PlaceAt, load_ends, followed_ends, field_ends, index_ends}
use Rattle.type_soundness.proofs.expressions.Operands.{sort_found, value_given, place_named, TakenBy, value_taken, place_taken, IsItself, FilledBy}
use Rattle.type_soundness.proofs.expressions.Instances.{InstanceOf, own_ends, no_instance_is}
use Rattle.type_soundness.proofs.expressions.Calls.{active_kept, call_ends, AreOperandsOf, overlay_ends, virtual_ends, through_ends, make_ends}
use Rattle.type_soundness.proofs.expressions.Standards.{length_slots, length_ends, standard_ends, target_known}

-- ---- types that the rules ask for

pub record Joined (ty : TypeId) (o : Option TypeId) (Is : TypeId → Type 0) : Type 0 where
  pub given : TypeId
  pub is : o ≡ Some given
  pub joins : Is given

pub joined : (s : Scope) (ty : TypeId) (o : Option TypeId) → JoinsSome s.types ty o → Joined ty o (Joins s.types ty)
joined s ty None h = absurd h
joined s ty (Some given) h = record { given = given; is = refl; joins = h }

-- what something joins is a type
pub join_some : (types : List TypeDef) (alike : Type 0) (o other : Option TypeDef) → JoinBy types alike o other → IsSome o
join_some types alike None other h = absurd h
join_some types alike (Some one) other h = tt

points_to : (ty : TypeId) (o : Option TypeDef) → PointsTo ty o → o ≡ Some (type.PointerTo ty)
points_to ty (Some (type.PointerTo target)) h = ap (λ (t : TypeId). Some (type.PointerTo t)) h
points_to ty (Some (type.Ordinal host low high)) h = absurd h
points_to ty (Some (type.Str max)) h = absurd h
points_to ty (Some (type.SetOf base)) h = absurd h
points_to ty (Some (type.ArrayOf i x)) h = absurd h
points_to ty (Some (type.RecordOf fields)) h = absurd h
points_to ty (Some (type.ObjectOf p d fields methods)) h = absurd h
points_to ty (Some (type.Procedural header)) h = absurd h
points_to ty None h = absurd h

same_number : (m n : ℕ) → (m == n) ≡ true → m ≡ n
same_number m n e = grind (arith, nat_tests)

same_head : {A : Type 0} (x y : A) (xs ys : List A) → x ∷ xs ≡ y ∷ ys → x ≡ y
same_head x y xs ys e = cc

-- an index is an ordinal
index_ordinal : (types : List TypeDef) (ty : TypeId) (o at : Option TypeDef) → IsElement types ty o at → IsSome (family_of at)
index_ordinal types ty (Some (type.ArrayOf i x)) at h = subst IsSome h.1.same h.1.ordinal
index_ordinal types ty (Some (type.Str max)) at h = subst IsSome (sym h.1) tt
index_ordinal types ty (Some (type.Ordinal host low high)) at h = absurd h
index_ordinal types ty (Some (type.SetOf base)) at h = absurd h
index_ordinal types ty (Some (type.RecordOf fields)) at h = absurd h
index_ordinal types ty (Some (type.PointerTo target)) at h = absurd h
index_ordinal types ty (Some (type.ObjectOf p d fields methods)) at h = absurd h
index_ordinal types ty (Some (type.Procedural header)) at h = absurd h
index_ordinal types ty None at h = absurd h

-- ---- all forms

module _ (program : Program) (well : IsWellTyped program) (again : Runs) (sound : HasSoundCalls program again) (f : Activation) (number : ℕ) (withs : List TypeId) (others : Others) where
  abbrev site : Site
  site = record { program = program; unit = f.unit; number = number }

  abbrev scope : Scope
  scope = scope_with others site withs

  abbrev sort_at : TypeId → Sort
  sort_at ty = sort_in f.unit ty

  abbrev Body : List Made → Type 0
  Body made = IsActive (world program made) f number withs

  abbrev IsTyped' : List Made → State → Type 0
  IsTyped' made s = IsTypedState (world program made) s

  -- ---- types of the unit

  pub place_known : (made : List Made) → Body made → (at : Place) (ty : TypeId) → HasPlace scope at ty → IsKnown program (sort_at ty)
  place_known made k at ty h = known_type program f.unit k.listed ty (places_have_types scope at ty h)

  pub typed_known : (made : List Made) → Body made → (e : Expression) (ty : TypeId) → IsTyped scope e → type_of e ≡ Some ty → IsKnown program (sort_at ty)
  typed_known made k e ty h is =
      known_type program f.unit k.listed ty
      (subst (λ (o : Option TypeId). IsSome (option_and_then (definition_in f.unit.types.types) o)) is (have_types scope e h (subst (λ (o : Option TypeId). IsSome o) (sym is) tt)))

  -- the type of an operand
  pub sort_for : (made : List Made) → Body made → (e : Expression) → IsSome (sort_in_table f.unit.types.types e) → HasSort program f.unit e
  sort_for made k e some = has_sort program f.unit k.listed e some

  pub as_sort : (made : List Made) (e : Expression) (ty : TypeId) (o : Outcome Value) → type_of e ≡ Some ty → Ends (world program made) (GivesAs f.unit (type_of e)) o → Ends (world program made) (ValueAt (sort_at ty)) o
  as_sort made e ty o is h = subst (λ (t : Option TypeId). Ends (world program made) (GivesAs f.unit t) o) is h

  -- a constant is itself
  itself : (made : List Made) (sort : Sort) (e : Expression) (s : State) → Ends (world program made) (ValueAt sort) (value program again f e s)
      → Ends (world program made) (λ w x. IsValueOf w sort x × IsItself e x) (value program again f e s)
  itself made sort (Const ty v) s h = record { more = h.more; typed = h.typed; is = (h.is, refl) }
  itself made sort e s h = ends_more (ValueAt sort) (world program made) (λ w x. IsValueOf w sort x × IsItself e x) (value program again f e s) (λ more x is. (is, tt)) h

  -- ---- a variable

  variable_ends : (made : List Made) (variable : Variable) (ty : TypeId) (s : State) → HasPlace scope (Var variable) ty → NamesGlobal program f.unit variable ty → Body made → IsTyped' made s
      → Ends (world program made) (PlaceAt (sort_at ty)) (looked (variable_at program f variable) s)
  variable_ends made variable ty s h names k typed =
      ends_looked (PlaceAt (sort_at ty)) (world program made) (variable_at program f variable) s typed (variable_place (world program made) well.agreed s.store typed.store others f number withs variable ty k h names)

  routine_value : (made : List Made) (ty : TypeId) (routine : RoutineId) (header : Header) (s : State) → definition (sort_at ty) ≡ Some (type.Procedural header) → NamesCode site routine header → IsTyped' made s
      → Ends (world program made) (ValueAt (sort_at ty)) ((known (routine_key f.unit routine) >>= λ key. give (Code key)) s)
  routine_value made ty routine header s e n typed =
      let w : World = world program made in
      subst (λ (o : Option Key). Ends w (ValueAt (sort_at ty)) ((known o >>= λ key. give (Code key)) s)) (sym n.is)
      (ends_done (ValueAt (sort_at ty)) w (Code n.key) s typed (code_is w (sort_at ty) header n.key e n.code))

  abbrev active : Kept
  active = active_kept program f number withs

  -- the type of a member of a set
  member_sort : (made : List Made) → Body made → (base : TypeId) (e : Expression) → AreOfOneFamily (definition_in f.unit.types.types base) (sort_in_table f.unit.types.types e)
      → (has : HasSort program f.unit e) × IsSome (family_of (definition (sort_at has.ty)))
  member_sort made k base e h =
      let has = sort_for made k e (one_family_some (definition_in f.unit.types.types base) (sort_in_table f.unit.types.types e) h) in
      (has, subst (λ (o : Option TypeDef). IsSome (family_of o)) has.same (subst IsSome h.same h.ordinal))

  result_known : (made : List Made) → Body made → (e : Expression) (ty : Option TypeId) → IsTyped scope e → type_of e ≡ ty → (sort : Sort) → option_map (sort_in f.unit) ty ≡ Some sort → IsKnown program sort
  result_known made k e None h is sort same = absurd cc
  result_known made k e (Some ty) h is sort same = subst (IsKnown program) (same_Some (sort_at ty) sort same) (typed_known made k e ty h is)

  value_keeps : (sort : Sort) (made more : List Made) (v : Value) → IsValueOf (world program made) sort v → IsValueOf (world program (made ++ more)) sort v
  value_keeps sort made more v h = value_grows (world program made) (world program (made ++ more)) (grows_by (world program made) more) sort v h

  itself_keeps : (sort : Sort) (e : Expression) (made more : List Made) (v : Value) → IsValueOf (world program made) sort v × IsItself e v → IsValueOf (world program (made ++ more)) sort v × IsItself e v
  itself_keeps sort e made more v h = (value_keeps sort made more v h.0, h.1)

  mutual
    -- an expression gives a value of its type
    pub value_ends : (made : List Made) (e : Expression) (h : IsTyped scope e) → Refers site scope e h → (s : State) → Body made → IsTyped' made s → Ends (world program made) (GivesAs f.unit (type_of e)) (value program again f e s)
    value_ends made (Const ty v) h r s k typed =
        ends_done (ValueAt (sort_at ty)) (world program made) (constant_value v) s typed (constant_is (world program made) well.agreed (sort_at ty) v (typed_known made k (Const ty v) ty h refl) h)
    value_ends made (RoutineValue ty routine) h r s k typed = routine_value made ty routine h.0 s h.1 r typed
    value_ends made (Load ty from) h r s k typed = load_ends program well.agreed made (sort_at ty) (place program again f from s) (place_ends made from ty h.1 r s k typed)
    value_ends made (Unary ty op operand) h r s k typed =
        let of = sort_for made k operand (unary_some op (definition_in f.unit.types.types ty) (sort_in_table f.unit.types.types operand) h.1) in
        unary_ends (world program made) (sort_at ty) (sort_at of.ty) op (value program again f operand s) (subst (FitsUnary op (definition_in f.unit.types.types ty)) of.same h.1)
        (as_sort made operand of.ty (value program again f operand s) of.is (value_ends made operand h.0 r s k typed))
    value_ends made (Binary ty op left right early) h r s k typed =
        let some = binary_some op (definition_in f.unit.types.types ty) (sort_in_table f.unit.types.types left) (sort_in_table f.unit.types.types right) h.2 in
        let a = sort_for made k left some.0 in
        let b = sort_for made k right some.1 in
        binary_ends program active made (sort_at ty) (sort_at a.ty) (sort_at b.ty) op early (value program again f left s) (value program again f right)
        (subst (λ (o : Option TypeDef). FitsBinary op (definition_in f.unit.types.types ty) (definition_in f.unit.types.types a.ty) o) b.same
        (subst (λ (o : Option TypeDef). FitsBinary op (definition_in f.unit.types.types ty) o (sort_in_table f.unit.types.types right)) a.same h.2)) h.3 k
        (as_sort made left a.ty (value program again f left s) a.is (value_ends made left h.0 r.0 s k typed))
        (λ made' t k' typed'. as_sort made' right b.ty (value program again f right t) b.is (value_ends made' right h.1 r.1 t k' typed'))
    value_ends made (Convert ty operand) h r s k typed =
        let of = sort_for made k operand (conversion_some (definition_in f.unit.types.types ty) (sort_in_table f.unit.types.types operand) h.1) in
        converted_ends (world program made) (sort_at ty) (sort_at of.ty) (value program again f operand s) (subst (IsConversion (definition_in f.unit.types.types ty)) of.same h.1)
        (as_sort made operand of.ty (value program again f operand s) of.is (value_ends made operand h.0 r s k typed))
    value_ends made (Range ty operand low high) h r s k typed =
        ranged_ends (world program made) (sort_at ty) low high (value program again f operand s) h.2 (as_sort made operand ty (value program again f operand s) h.1 (value_ends made operand h.0 r s k typed))
    value_ends made (SetOf ty listed) h r s k typed = elements_ends made ty h.0 h.1 listed h.2 r [] (All-nil (LiesWithin 0 32)) s k typed
    value_ends made (Call ty routine own args) h (inl n) s k typed =
        subst (λ (t : Option TypeId). Ends (world program made) (GivesAs f.unit t) (value program again f (Call ty routine own args) s)) n.calls.takes.0
        (call_ends program well.agreed again sound f number withs made routine n (receiver program again f own s) (operands program again f args) k
        (instance_ends made own n.calls.callee n.calls.instance s k typed)
        (λ made' t k' typed'. taken_ends made' n.calls.header.params args n.calls.takes.1.0 n.calls.takes.1.1 t k' typed'))
    value_ends made (Call ty routine own args) h (inr n) s k typed =
        subst (λ (t : Option TypeId). Ends (world program made) (GivesAs f.unit t) (value program again f (Call ty routine own args) s)) (sym n.0)
        (subst (λ (r : Receiver). Ends (world program made) (GivesAs f.unit None) (value program again f (Call ty routine r args) s)) (sym n.1)
        (overlay_ends program well.agreed again sound f number withs made routine n.2 s (operands program again f args) k
        (ends_more (FilledBy f.unit n.2.slots args) (world program made) (AreOperandsOf n.2.slots) (operands program again f args s) (λ more xs is. is.0) (filled_ends made n.2.slots args n.2.fills.0 n.2.fills.1 s k typed))))
    value_ends made (CallVirtual ty own slot checked args) h r s k typed =
        subst (λ (t : Option TypeId). Ends (world program made) (GivesAs f.unit t) (value program again f (CallVirtual ty own slot checked args) s)) r.1.takes.0
        (virtual_ends program well.agreed again sound f number withs made h.1.0 slot checked r.1 (place program again f own s) (operands program again f args) k (place_ends made own h.1.0 h.1.2 r.0 s k typed)
        (λ made' t k' typed'. taken_ends made' r.1.method.header.params args r.1.takes.1.0 r.1.takes.1.1 t k' typed'))
    value_ends made (CallThrough ty through args) h r s k typed =
        subst (λ (t : Option TypeId). Ends (world program made) (GivesAs f.unit t) (value program again f (CallThrough ty through args) s)) h.1.3
        (through_ends program well.agreed again sound f number withs made h.1.0 h.1.1 (place program again f through s) (operands program again f args) (place_known made k through h.1.0 h.1.4) h.1.2 k
        (place_ends made through h.1.0 h.1.4 r.0 s k typed) (λ made' t k' typed'. taken_ends made' h.1.1.params args h.1.5 r.1 t k' typed'))
    value_ends made (Std ty number' args) h r s k typed =
        measured_ends made number' h.1.0 h.1.1 ty args (λ t. (operands program again f args >>= λ xs. known (standard number') >>= λ one. standard_done program (option_map (sort_in f.unit) ty) xs one) t) h.1.2 h.1.4 h.1.3 r s k typed
        (standard_ends program well.agreed well.classes made f.unit number' h.1.0 h.1.1 ty args (operands program again f args s) h.1.2 h.1.4 (result_known made k (Std ty number' args) ty h refl) (filled_ends made h.1.0 args h.1.3 r s k typed))
    value_ends made (Make ty routine args) h r s k typed =
        make_ends program well.agreed again sound f number withs made ty h.0 routine r s (operands program again f args) (target_known program well.agreed (sort_at ty) h.0 (typed_known made k (Make ty routine args) ty h refl) h.1) h.1 r.calls.instance k typed
        (λ made' t k' typed'. taken_ends made' r.calls.header.params args r.calls.takes.0 r.calls.takes.1 t k' typed')

    -- the length of a variable, or what else a standard routine gives
    measured_ends : (made : List Made) (n : ℕ) (slots : List Slot) (outcome : Result) (ty : Option TypeId) (args : Arguments) (other : Does Value) → IsStandard n slots outcome → IsGiven f.unit.types.types outcome ty args
        → (h : FillEach scope slots args) → RefersFilled site scope slots args h → (s : State) → Body made → IsTyped' made s → Ends (world program made) (GivesAs f.unit ty) (other s)
        → Ends (world program made) (GivesAs f.unit ty) (measured program again f n args other s)
    measured_ends made n (slot ∷ slots) outcome ty (ByValue (Load t from) NoArguments) other std gives h r s k typed general = by (n == routine.length) refl (place_ends made from t h.0.1 r.0 s k typed) where
      by : (test : Bool) → (n == routine.length) ≡ test → Ends (world program made) (PlaceAt (sort_at t)) (place program again f from s)
          → Ends (world program made) (GivesAs f.unit ty) ((if test then (place program again f from >>= λ at. looked (length_held at)) else other) s)
      by false e at = general
      by true e at =
          let same = length_slots program well.agreed n (slot ∷ slots) outcome std (same_number n routine.length e) in
          let text : slot ≡ TextSlot = same_head slot TextSlot slots [] same.0 in
          length_ends program well.agreed made f.unit (sort_at t) ty (ByValue (Load t from) NoArguments) (place program again f from s)
          (subst (λ (x : Slot). FitsValue x (definition (sort_at t))) text h.1)
          (subst (λ (x : Result). IsGiven f.unit.types.types x ty (ByValue (Load t from) NoArguments)) same.1 gives)
          at
    measured_ends made n [] outcome ty (ByValue one rest) other std gives h r s k typed general = absurd h
    measured_ends made n slots outcome ty args other std gives h r s k typed general = general

    -- a place is one of its type
    pub place_ends : (made : List Made) (at : Place) (ty : TypeId) (h : HasPlace scope at ty) → RefersPlace site scope at ty h → (s : State) → Body made → IsTyped' made s
        → Ends (world program made) (PlaceAt (sort_at ty)) (place program again f at s)
    place_ends made (Var variable) ty h r s k typed = variable_ends made variable ty s h r k typed
    place_ends made (Deref pointer) ty h r s k typed =
        let e = points_to ty (sort_in_table f.unit.types.types pointer) h.2 in
        let of = sort_for made k pointer (subst IsSome (sym e) tt) in
        followed_ends program well.agreed made (sort_at of.ty) ty (value program again f pointer s) (sort_of f pointer) (sym of.same ∙ e) (known_type program f.unit k.listed ty h.0) (sort_found f pointer of.ty of.is)
        (as_sort made pointer of.ty (value program again f pointer s) of.is (value_ends made pointer h.1 r s k typed))
    place_ends made (Index of index checked) ty h r s k typed =
        let ordinal = index_ordinal f.unit.types.types ty (definition_in f.unit.types.types h.1.0) (sort_in_table f.unit.types.types index) h.1.3 in
        let at = sort_for made k index (family_some (sort_in_table f.unit.types.types index) ordinal) in
        index_ends program well.agreed active made (sort_at h.1.0) (sort_at at.ty) ty checked (place program again f of s) (value program again f index) (known_type program f.unit k.listed ty h.0)
        (subst (IsElement f.unit.types.types ty (definition_in f.unit.types.types h.1.0)) at.same h.1.3) (subst (λ (o : Option TypeDef). IsSome (family_of o)) at.same ordinal) k
        (place_ends made of h.1.0 h.1.1 r.0 s k typed) (λ made' t k' typed'. as_sort made' index at.ty (value program again f index t) at.is (value_ends made' index h.1.2 r.1 t k' typed'))
    place_ends made (FieldOf of number') ty h r s k typed =
        field_ends program well.agreed made (sort_at h.1.0) number' ty (place program again f of s) h.1.2 (known_type program f.unit k.listed ty h.0) (place_ends made of h.1.0 h.1.1 r s k typed)

    instance_ends : (made : List Made) (own : Receiver) (callee : Callee) → RefersInstance site scope own callee → (s : State) → Body made → IsTyped' made s → Ends (world program made) (InstanceOf callee) (receiver program again f own s)
    instance_ends made NoReceiver callee r s k typed = ends_done (InstanceOf callee) (world program made) no_instance s typed (no_instance_is (world program made) well.agreed callee r)
    instance_ends made (Own at) callee r s k typed =
        own_ends program well.agreed made f site r.0 callee at (place program again f at s) r.1 (place_ends made at r.0 r.2.0 r.2.1 s k typed)

    elements_ends : (made : List Made) (ty base : TypeId) → definition (sort_at ty) ≡ Some (type.SetOf base) → (listed : Elements) (h : AreTypedElements scope base listed) → RefersElements site scope base listed h → (set : List ℕ) → All (LiesWithin 0 32) set → (s : State)
        → Body made → IsTyped' made s → Ends (world program made) (ValueAt (sort_at ty)) (elements program again f listed set s)
    elements_ends made ty base e NoElements h r set are s k typed = set_done (world program made) (sort_at ty) base set s e are typed
    elements_ends made ty base e (One one rest) h r set are s k typed =
        let a = member_sort made k base one h.1 in
        element_ends program active (ValueAt (sort_at ty)) made (sort_at a.0.ty) (value program again f one s) (λ n. elements program again f rest (with_range set n n)) a.1 k
        (as_sort made one a.0.ty (value program again f one s) a.0.is (value_ends made one h.0 r.0 s k typed)) (λ made' n t small k' typed'. elements_ends made' ty base e rest h.2 r.1 (with_range set n n) (more_lies set n n are small) t k' typed')
    elements_ends made ty base e (Span low high rest) h r set are s k typed =
        let a = member_sort made k base low h.1 in
        let b = member_sort made k base high h.3 in
        span_ends program active (ValueAt (sort_at ty)) made (sort_at a.0.ty) (sort_at b.0.ty) set are (value program again f low s) (value program again f high) (λ more. elements program again f rest more) a.1 b.1 k
        (as_sort made low a.0.ty (value program again f low s) a.0.is (value_ends made low h.0 r.0 s k typed))
        (λ made' t k' typed'. as_sort made' high b.0.ty (value program again f high t) b.0.is (value_ends made' high h.2 r.1 t k' typed'))
        (λ made' more t lies k' typed'. elements_ends made' ty base e rest h.4 r.2 more lies t k' typed')

    -- arguments are as the parameters take them
    pub taken_ends : (made : List Made) (params : List Param) (args : Arguments) (h : TakeEach scope params args) → RefersTaken site scope params args h → (s : State) → Body made → IsTyped' made s
        → Ends (world program made) (TakenBy f.unit params) (operands program again f args s)
    taken_ends made [] NoArguments h r s k typed = ends_done (TakenBy f.unit []) (world program made) [] s typed tt
    taken_ends made [] (ByValue one rest) h r s k typed = absurd h
    taken_ends made [] (ByPlace one rest) h r s k typed = absurd h
    taken_ends made (param ∷ params) NoArguments h r s k typed = absurd h
    taken_ends made (param ∷ params) (ByValue one rest) h r s k typed =
        let j = joined scope param.ty (type_of one) h.2 in
        let kg = typed_known made k one j.given h.1 j.is in
        let kt = known_type program f.unit k.listed param.ty (join_some f.unit.types.types (Descends f.unit.types.types j.given param.ty) (definition_in f.unit.types.types param.ty) (definition_in f.unit.types.types j.given) j.joins) in
        value_given program active (TakenBy f.unit params) (TakenBy f.unit (param ∷ params)) (operands program again f rest) (ValueAt (sort_at j.given)) (value_keeps (sort_at j.given)) made (sort_at j.given) (sort_of f one) (value program again f one) s
        (sort_found f one j.given j.is s) k (as_sort made one j.given (value program again f one s) j.is (value_ends made one h.1 r.0 s k typed)) (λ made' t k' typed'. taken_ends made' params rest h.3 r.1 t k' typed')
        (λ made' v xs is are. (value_taken (world program made') well.agreed f.unit param j.given v h.0 kg kt j.joins is, are))
    taken_ends made (param ∷ params) (ByPlace at rest) h r s k typed =
        let kg = place_known made k at h.1.0 h.1.1 in
        place_named program active (TakenBy f.unit params) (TakenBy f.unit (param ∷ params)) (operands program again f rest) made (sort_at h.1.0) (place program again f at s) k (place_ends made at h.1.0 h.1.1 r.0 s k typed)
        (λ made' t k' typed'. taken_ends made' params rest h.2 r.1 t k' typed')
        (λ made' to xs is are. (place_taken (world program made') well.agreed f.unit param h.1.0 to h.0 kg h.1.2 is, are))

    -- arguments are as a standard routine takes them
    filled_ends : (made : List Made) (slots : List Slot) (args : Arguments) (h : FillEach scope slots args) → RefersFilled site scope slots args h → (s : State) → Body made → IsTyped' made s
        → Ends (world program made) (FilledBy f.unit slots args) (operands program again f args s)
    filled_ends made [] NoArguments h r s k typed = ends_done (FilledBy f.unit [] NoArguments) (world program made) [] s typed (tt, tt)
    filled_ends made [] (ByValue one rest) h r s k typed = absurd h
    filled_ends made [] (ByPlace one rest) h r s k typed = absurd h
    filled_ends made (slot ∷ slots) NoArguments h r s k typed = absurd h
    filled_ends made (slot ∷ slots) (ByValue one rest) h r s k typed =
        let a = sort_for made k one (value_fits_some slot (sort_in_table f.unit.types.types one) h.1) in
        value_given program active (FilledBy f.unit slots rest) (FilledBy f.unit (slot ∷ slots) (ByValue one rest)) (operands program again f rest) (λ w v. IsValueOf w (sort_at a.ty) v × IsItself one v) (itself_keeps (sort_at a.ty) one)
        made (sort_at a.ty) (sort_of f one) (value program again f one) s (sort_found f one a.ty a.is s) k
        (itself made (sort_at a.ty) one s (as_sort made one a.ty (value program again f one s) a.is (value_ends made one h.0 r.0 s k typed))) (λ made' t k' typed'. filled_ends made' slots rest h.2 r.1 t k' typed')
        (λ made' v xs is are. (((subst (FitsValue slot) a.same h.1, is.0), are.0), record { ty = a.ty; typed = a.is; v = v; more = xs; is = refl; value = is.0; itself = is.1 }))
    filled_ends made (slot ∷ slots) (ByPlace at rest) h r s k typed =
        place_named program active (FilledBy f.unit slots rest) (FilledBy f.unit (slot ∷ slots) (ByPlace at rest)) (operands program again f rest) made (sort_at h.0.0) (place program again f at s) k (place_ends made at h.0.0 h.0.1 r.0 s k typed)
        (λ made' t k' typed'. filled_ends made' slots rest h.1 r.1 t k' typed')
        (λ made' to xs is are. (((sort_at h.0.0, is, h.0.2), are.0), tt))
