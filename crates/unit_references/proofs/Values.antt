-- Expressions and places refer to what they say.
use Rattle.std.proofs.Common.{◌≡◌, ◌⊎◌, inl, inr, ℕ, List, [], ◌∷◌, Option, Some, None, refl, sym, ap, subst, ◌∙◌}
use Rattle.type_soundness.specs.type_layout.declared.definitions.TypeId.{TypeId}
use Rattle.type_soundness.specs.type_layout.declared.definitions.RoutineId.{RoutineId}
use Rattle.type_soundness.specs.type_layout.declared.definitions.Param.{Param}
use Rattle.type_soundness.specs.type_layout.declared.definitions.Header.{Header}
use Rattle.type_soundness.specs.typed_tree.declared.units.Unit.{Unit as TypedUnit}
use Rattle.type_soundness.specs.typed_tree.declared.units.Program.{Program}
use Rattle.type_soundness.specs.typed_tree.Expressions.{Expression, Place, Receiver, Elements, Arguments, Const, RoutineValue, Load, Unary, Binary, Convert, Range, SetOf, Call, CallVirtual, CallThrough, Std, Make, Var, Deref, Index, FieldOf, NoReceiver, Own, NoElements, One, Span, NoArguments, ByValue, ByPlace}
use Rattle.type_soundness.specs.typed_tree.type_fits.Fits.{definition}
use Rattle.type_soundness.specs.typed_tree.type_fits.Standard.{Slot}
use Rattle.type_soundness.specs.well_formed.Scopes.{Prototype, Scope, IsWithin}
use Rattle.type_soundness.specs.well_formed.Typed.{IsTyped, HasPlace, IsOwn, TakeEach, FillEach, AreTypedElements, IsConstructorOf}
use Rattle.type_soundness.specs.store_typing.types.Agreement.{IsUnit}
use Rattle.type_soundness.specs.program_typing.programs.References.{Site, IsOwned, CallsNumber, CallsOverlay, Refers, RefersPlace, RefersInstance, RefersElements, RefersTaken, RefersFilled}
use Rattle.unit_references.specs.Held.{declared_owner}
use Rattle.unit_references.specs.Units.{HasSoundUnits}
use Rattle.unit_references.specs.Laws.{site_in, scope_at}
use Rattle.unit_references.proofs.Classes.{slot_class}
use Rattle.unit_references.proofs.Routines.{Leads, Overlaid, Found, names_global, found, code_named, calls_of}
use Rattle.unit_references.proofs.Owners.{object_of, owned_object, owned_below}
use Rattle.unit_references.proofs.Overlays.{fills_each}

-- a routine that isn't a method has no instance
no_receiver : (s : Scope) (own : Receiver) → IsOwn s None own → own ≡ NoReceiver
no_receiver s NoReceiver h = refl
no_receiver s (Own at) h = absurd h

module _ (program : Program) (sound : HasSoundUnits program) (unit : TypedUnit) (listed : IsUnit program unit) (number : ℕ) (withs : List TypeId) where
  abbrev site : Site
  site = site_in program unit number

  abbrev scope : Scope
  scope = scope_at program unit (sound.supported unit listed) number withs

  -- what a call asks of the routine that it names
  abbrev Called : Option TypeId → Receiver → Arguments → Prototype → Type 0
  Called ty own args one =
      (one.header.result ≡ ty) × (one.owner ≡ None → IsWithin scope.around one.outer) × IsOwn scope one.owner own × TakeEach scope one.header.params args

  abbrev Takes : Option TypeId → Arguments → Header → Type 0
  Takes ty args header = (header.result ≡ ty) × ((takes : TakeEach scope header.params args) × RefersTaken site scope header.params args takes)

  abbrev TakesAll : Arguments → Header → Type 0
  TakesAll args header = (takes : TakeEach scope header.params args) × RefersTaken site scope header.params args takes

  abbrev Fills : Arguments → List Slot → Type 0
  Fills args slots = (fills : FillEach scope slots args) × RefersFilled site scope slots args fills

  abbrev Making : TypeId → Arguments → Prototype → Type 0
  Making class args one = IsConstructorOf unit.types.types class one × TakeEach scope one.header.params args

  -- ---- routines of sources, and those of Overlay

  called : (ty : Option TypeId) (routine : RoutineId) (own : Receiver) (args : Arguments) (f : Found (Called ty own args) site scope.around routine) → Leads site scope.around routine f.seen ⊎ Overlaid site routine f.seen
      → ((l : Leads site scope.around routine f.seen) → RefersInstance site scope own l.callee) → ((params : List Param) (h : TakeEach scope params args) → RefersTaken site scope params args h)
      → ((slots : List Slot) (h : FillEach scope slots args) → RefersFilled site scope slots args h)
      → CallsNumber site routine (λ callee. RefersInstance site scope own callee) (Takes ty args) ⊎ (ty ≡ None) × (own ≡ NoReceiver) × CallsOverlay site routine (Fills args)
  called ty routine own args f (inl l) instance taken filled =
      let h = f.asked in
      inl (calls_of (λ callee. RefersInstance site scope own callee) (Takes ty args) site scope.around routine f.seen l h.1 (instance l) (h.0, (h.3, taken f.seen.header.params h.3)))
  called ty routine own args f (inr o) instance taken filled =
      let h = f.asked in
      let one = o.one in
      let fills : FillEach scope one.slots args = fills_each scope one.slots f.seen.header.params args one.takes h.3 in
      inr (
        sym h.0 ∙ one.bare,
        no_receiver scope own (subst (λ (owner : Option TypeId). IsOwn scope owner own) one.free h.2),
        record { key = o.key; is = o.is; own = one.own; slots = one.slots; one = one.one; fills = (fills, filled one.slots fills) },
      )

  made : (class : TypeId) (routine : RoutineId) (args : Arguments) (f : Found (Making class args) site scope.around routine) → Leads site scope.around routine f.seen ⊎ Overlaid site routine f.seen
      → ((l : Leads site scope.around routine f.seen) → IsOwned site class l.callee) → ((params : List Param) (h : TakeEach scope params args) → RefersTaken site scope params args h)
      → CallsNumber site routine (λ callee. IsOwned site class callee) (TakesAll args)
  made class routine args f (inl l) owned taken =
      let h = f.asked in
      let makes = h.0 in
      calls_of (λ callee. IsOwned site class callee) (TakesAll args) site scope.around routine f.seen l (λ none. absurd (no_none f.seen.owner makes.owner none makes.owned)) (owned l) (h.1, taken f.seen.header.params h.1)
    where
      no_none : (o : Option TypeId) (owner : TypeId) → o ≡ None → o ≡ Some owner → ⊥
      no_none o owner e f = cc
  made class routine args f (inr o) owned taken =
      let h = f.asked in
      let makes = h.0 in
      let one = o.one in
      let none : f.seen.owner ≡ None = one.free in
      let some : f.seen.owner ≡ Some makes.owner = makes.owned in
      absurd cc

  mutual
    pub value_refers : (e : Expression) (h : IsTyped scope e) → Refers site scope e h
    value_refers (Const ty value) h = tt
    value_refers (RoutineValue ty routine) h = code_named program sound unit listed number withs routine h.0 h.2 h.3
    value_refers (Load ty from) h = place_refers from ty h.1
    value_refers (Unary ty op operand) h = value_refers operand h.0
    value_refers (Binary ty op left right early) h = (value_refers left h.0, value_refers right h.1)
    value_refers (Convert ty operand) h = value_refers operand h.0
    value_refers (Range ty operand low high) h = value_refers operand h.0
    value_refers (SetOf ty elements) h = elements_refer h.0 elements h.2
    value_refers (Call ty routine own args) h =
        let f = found program sound unit listed number withs (Called ty own args) routine h.1 in
        let asked = f.asked in
        called ty routine own args f f.leads (λ l. instance_refers own routine f.seen l f.seen.owner refl asked.2) (λ params k. taken_refer params args k) (λ slots k. filled_refer slots args k)
    value_refers (CallVirtual ty own slot checked args) h =
        let virtual = h.1.3 in (
          place_refers own h.1.0 h.1.2,
          record {
            part = slot_class unit.types.types (sound.marked unit listed) h.1.0 slot virtual.0 virtual.1;
            method = virtual.0;
            is = virtual.1;
            takes = (virtual.2.0, (virtual.2.1, taken_refer virtual.0.header.params args virtual.2.1));
          },
        )
    value_refers (CallThrough ty through args) h = (place_refers through h.1.0 h.1.4, taken_refer h.1.1.params args h.1.5)
    value_refers (Std ty number' args) h = filled_refer h.1.0 args h.1.3
    value_refers (Make ty routine args) h =
        let f = found program sound unit listed number withs (Making h.0 args) routine h.3 in
        let makes = f.asked.0 in
        made h.0 routine args f f.leads (λ l. owned_object program sound unit listed number scope.around routine f.seen l makes.owner makes.owned h.0 (object_of (definition unit.types.types h.0) h.2) makes.inherited) (λ params k. taken_refer params args k)

    pub place_refers : (at : Place) (ty : TypeId) (h : HasPlace scope at ty) → RefersPlace site scope at ty h
    place_refers (Var variable) ty h = names_global program sound unit listed number withs variable ty h
    place_refers (Deref pointer) ty h = value_refers pointer h.1
    place_refers (Index at index checked) ty h = (place_refers at h.1.0 h.1.1, value_refers index h.1.2)
    place_refers (FieldOf at number') ty h = place_refers at h.1.0 h.1.1

    instance_refers : (own : Receiver) (routine : RoutineId) (seen : Prototype) (l : Leads site scope.around routine seen) (owner : Option TypeId) → seen.owner ≡ owner → IsOwn scope owner own → RefersInstance site scope own l.callee
    instance_refers NoReceiver routine seen l None e h = none l.callee.routine.owner (ap (declared_owner unit.types) (sym e) ∙ l.owner)
      where
        none : (o : Option TypeId) → None ≡ declared_owner l.callee.unit.types o → o ≡ None
        none None f = refl
        none (Some owner) f = absurd cc
    instance_refers NoReceiver routine seen l (Some owner) e h = absurd h
    instance_refers (Own at) routine seen l None e h = absurd h
    instance_refers (Own at) routine seen l (Some owner) e h =
        (h.0, owned_below program sound unit listed number scope.around routine seen l owner e h.0 h.2, (h.1, place_refers at h.0 h.1))

    elements_refer : (base : TypeId) (elements : Elements) (h : AreTypedElements scope base elements) → RefersElements site scope base elements h
    elements_refer base NoElements h = tt
    elements_refer base (One one rest) h = (value_refers one h.0, elements_refer base rest h.2)
    elements_refer base (Span low high rest) h = (value_refers low h.0, value_refers high h.2, elements_refer base rest h.4)

    pub taken_refer : (params : List Param) (args : Arguments) (h : TakeEach scope params args) → RefersTaken site scope params args h
    taken_refer [] NoArguments h = tt
    taken_refer [] (ByValue value rest) h = absurd h
    taken_refer [] (ByPlace at rest) h = absurd h
    taken_refer (param ∷ params) NoArguments h = absurd h
    taken_refer (param ∷ params) (ByValue value rest) h = (value_refers value h.1, taken_refer params rest h.3)
    taken_refer (param ∷ params) (ByPlace at rest) h = (place_refers at h.1.0 h.1.1, taken_refer params rest h.2)

    filled_refer : (slots : List Slot) (args : Arguments) (h : FillEach scope slots args) → RefersFilled site scope slots args h
    filled_refer [] NoArguments h = tt
    filled_refer [] (ByValue value rest) h = absurd h
    filled_refer [] (ByPlace at rest) h = absurd h
    filled_refer (slot ∷ slots) NoArguments h = absurd h
    filled_refer (slot ∷ slots) (ByValue value rest) h = (value_refers value h.0, filled_refer slots rest h.2)
    filled_refer (slot ∷ slots) (ByPlace at rest) h = (place_refers at h.0.0 h.0.1, filled_refer slots rest h.1)
