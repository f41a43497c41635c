-- Calls of methods by the class of an instance.
use Rattle.std.proofs.Common.{◌≡◌, ℕ, zero, suc, Bool, true, false, List, Some, None, refl, sym, ap, subst, ◌∙◌}
use Rattle.std.specs.Prelude.{slice_get, Option, is_some}
use Rattle.std.proofs.lemmas.Option.{same_Some}
use Rattle.program_typing.specs.type_layout.declared.definitions.TypeId.{TypeId}
use Rattle.program_typing.specs.type_layout.declared.definitions.Header.{Header}
use Rattle.program_typing.specs.type_layout.declared.definitions.Host.{Host}
use Rattle.program_typing.specs.type_layout.declared.definitions.Host.TheVariants as host
use Rattle.program_typing.specs.type_layout.declared.definitions.Method.{Method}
use Rattle.program_typing.specs.type_layout.declared.definitions.TypeDef.{TypeDef}
use Rattle.program_typing.specs.type_layout.declared.definitions.TypeDef.TheVariants as type
use Rattle.program_typing.specs.type_layout.Table.{IsObject}
use Rattle.program_typing.specs.typed_tree.declared.units.Unit.{Unit as TypedUnit}
use Rattle.program_typing.specs.typed_tree.type_fits.Fits.{stored_as, ancestor}
use Rattle.program_typing.specs.tp_meaning.Trees.{Key, Spot, Value}
use Rattle.program_typing.specs.tp_meaning.Shapes.{parts_at, class_place}
use Rattle.program_typing.specs.tp_meaning.Programs.{Sort, definition, beside, sort_in, class_key, method_in}
use Rattle.program_typing.specs.tp_meaning.Outcomes.{State, Does, ◌>>=◌, looked}
use Rattle.program_typing.specs.tp_meaning.Activations.{Reached, Activation, Callee, class_at}
use Rattle.program_typing.specs.tp_meaning.Calls.{Runs, entered, with_method, dispatched_in, dispatched_by, method_of}
use Rattle.program_typing.specs.store_typing.types.Declared.{declared}
use Rattle.program_typing.specs.store_typing.types.Agreement.{IsKnown, AreConsistent, IsOfLine}
use Rattle.program_typing.specs.store_typing.types.Forms.{form_at}
use Rattle.program_typing.proofs.store_typing_proofs.types.Agreed.{defined}
use Rattle.program_typing.proofs.store_typing_proofs.types.Lines.{begins}
use Rattle.program_typing.specs.store_typing.stores.Worlds.{World}
use Rattle.program_typing.specs.store_typing.stores.Places.{LiesAt, IsSeenAs, Shared, Letter, Whole, IsAt}
use Rattle.program_typing.proofs.store_typing_proofs.stores.Seen.{reached_known, object_seen, parent_object}
use Rattle.program_typing.specs.store_typing.standard.Laws.{HasClasses}
use Rattle.program_typing.specs.lvalues.Frames.{IsActive}
use Rattle.program_typing.specs.calls.Callees.{AreTaken}
use Rattle.program_typing.specs.programs.Outcomes.{IsTypedState, after, Ends}
use Rattle.program_typing.specs.programs.References.{IsVisible, Names}
use Rattle.program_typing.specs.programs.WellTyped.{slot_method, HasMethods}
use Rattle.program_typing.specs.programs.Calls.{IsInstanceBy, IsInstance, GivesAs}
use Rattle.type_soundness.proofs.activations.Callers.{HasRoutines, RunsBodies}
use Rattle.program_typing.proofs.programs.Ends.{ends_bind, ends_done, ends_looked, active_after}
use Rattle.type_soundness.proofs.activations.Classes.{HasClass, some_of, place_shared, instance_place, line_further, class_instance}
use Rattle.type_soundness.proofs.activations.Called.{callee_numbered, taken_after, named_ends}

-- a method that answers for an instance, with a header of a unit's table
pub record MethodFor (w : World) (unit : TypedUnit) (number : ℕ) (spot : Spot) (header : Header) (key : Key) : Type 0 where
  pub callee : Callee
  pub names : Names (record { program = w.program; unit = unit; number = number }) key header callee
  pub instance : IsInstance w callee (Some spot) None

no_ordinal : (o : Option TypeDef) (h : Host) → IsObject o → stored_as o ≡ Some h → ⊥
no_ordinal (Some (type.ObjectOf p d fields methods)) h is e = cc
no_ordinal (Some (type.Ordinal host low high)) h is e = is
no_ordinal (Some (type.Str max)) h is e = is
no_ordinal (Some (type.SetOf base)) h is e = is
no_ordinal (Some (type.ArrayOf i x)) h is e = is
no_ordinal (Some (type.RecordOf fields)) h is e = is
no_ordinal (Some (type.PointerTo target)) h is e = is
no_ordinal (Some (type.Procedural header)) h is e = is
no_ordinal None h is e = is

-- ---- types of a line

module _ (w : World) (agreed : AreConsistent w.program) where
  -- a type with an ancestor that is an object type is one
  object_below : (own top : Sort) → IsKnown w.program own → IsKnown w.program top → IsOfLine own (class_key top) → IsObject (definition top) → IsObject (definition own)
  object_below own top ko kt of object =
      let mid : Sort = beside own of.ty in
      let km = reached_known w.program agreed own (class_key top) ko of in
      let start = begins own.table.types (defined w.program agreed own ko) of.steps own.ty of.ty of.reached in
      start.object (object_seen w.program agreed top mid kt km (sym of.same) object)

  -- what an object type descends from is one
  object_above : (own : Sort) → IsKnown w.program own → IsObject (definition own) → (steps : ℕ) (ty : TypeId) → ancestor own.table.types steps own.ty ≡ Some ty → IsObject (slice_get own.table.types ty.0)
  object_above own ko object zero ty e = subst (λ (t : TypeId). IsObject (slice_get own.table.types t.0)) (same_Some own.ty ty e) object
  object_above own ko object (suc steps) ty e = parent_object w.program agreed own.table.types (defined w.program agreed own ko) steps own.ty ty e

module _ (w : World) (agreed : AreConsistent w.program) (routines : HasRoutines w.program) (closed : HasClasses w.program) (methods : HasMethods w.program)
    (unit : TypedUnit) (number : ℕ) (class : TypeId) (slot : ℕ) (method : Method) (is : slot_method (sort_in unit class) slot ≡ Some method)
    (known : IsKnown w.program (sort_in unit class)) (object : IsObject (definition (sort_in unit class))) where
  abbrev seen : Sort
  seen = sort_in unit class

  -- the method that a class of the instance's line has in the slot
  answers : (spot : Spot) (own : Sort) → IsKnown w.program own → LiesAt w spot (form_at own) → IsOfLine own (class_key seen) → (c : Sort) → IsKnown w.program c → IsOfLine own (class_key c) → (key : Key)
      → method_in slot c ≡ Some key → MethodFor w unit number spot method.header key
  answers spot own ko lies of c kc has key e =
      let found = methods.methods own seen c slot method key ko known kc of has is e in
      let callee : Callee = found.callee in
      let sound = routines.routines callee.unit callee.number callee.routine found.listed (callee_numbered w.program key callee found.found) in
      let own_object = object_below w agreed own seen ko known of object in
      let itself : IsOfLine own (class_key own) = record { steps = 0; ty = own.ty; reached = refl; same = refl } in
      let inner : callee.routine.outer ≡ None = sound.method (ap (λ (o : Option TypeId). is_some o) found.owned) in
      record {
        callee = callee;
        names = record {
          found = found.found;
          listed = found.listed;
          visible = subst (λ (o : Option ℕ). IsVisible (record { program = w.program; unit = unit; number = number }) callee.unit o) (sym inner) tt;
          same = found.same;
        };
        instance = subst (λ (o : Option TypeId). IsInstanceBy w callee.unit o (Some spot) None) (sym found.owned) (record {
          top = own;
          known = ko;
          object = own_object;
          place = instance_place w agreed spot own own ko lies ko own_object itself;
          line = line_further w agreed own c (declared callee.unit.types found.owner) ko kc has found.line;
          given = tt;
        });
      }

  abbrev Answers : Spot → World → Key → Type 0
  Answers spot v key = MethodFor v unit number spot method.header key

  slot_answers : (spot : Spot) (own : Sort) → IsKnown w.program own → LiesAt w spot (form_at own) → IsOfLine own (class_key seen) → (c : Sort) → IsKnown w.program c → IsOfLine own (class_key c)
      → (o : Option Key) → method_in slot c ≡ o → (s : State) → IsTypedState w s → Ends w (Answers spot) (with_method o s)
  slot_answers spot own ko lies of c kc has None e s typed = tt
  slot_answers spot own ko lies of c kc has (Some key) e s typed = ends_done (Answers spot) w key s typed (answers spot own ko lies of c kc has key e)

  class_answers : (spot : Spot) (sort : Sort) → class_key sort ≡ class_key seen → (checked : Bool) (found : Option Key) → HasClass w spot sort found → (s : State) → IsTypedState w s → Ends w (Answers spot) (dispatched_by w.program slot checked found s)
  class_answers spot sort same true None has s typed = tt
  class_answers spot sort same false None has s typed = tt
  class_answers spot sort same checked (Some key) has s typed =
      let own : Sort = has.own in
      let of : IsOfLine own (class_key seen) = record { steps = has.of.steps; ty = has.of.ty; reached = has.of.reached; same = has.of.same ∙ same } in
      let top : Sort = beside own has.has.ty in
      let kt = reached_known w.program agreed own (Some key) has.known has.has in
      let own_object = object_below w agreed own seen has.known known of object in
      let there = closed.classes top key kt (object_above w agreed own has.known own_object has.has.steps has.has.ty has.has.reached) has.has.same in
      let line : IsOfLine own (class_key there.0) = subst (IsOfLine own) (sym there.3) has.has in
      subst (λ (o : Option Sort). Ends w (Answers spot) (dispatched_in slot o s)) (sym there.1)
      (slot_answers spot own has.known has.lies of there.0 there.2 line (method_in slot there.0) refl s typed)

-- what is found for an instance at a place
abbrev pub AnswersFor : TypedUnit → ℕ → Spot → Method → World → Key → Type 0
AnswersFor unit number spot method w key = MethodFor w unit number spot method.header key

-- the method of an instance, by its class
pub method_ends : (w : World) → AreConsistent w.program → HasRoutines w.program → HasClasses w.program → HasMethods w.program → (unit : TypedUnit) (number : ℕ) (class : TypeId) (slot : ℕ) (method : Method)
    → slot_method (sort_in unit class) slot ≡ Some method → IsObject (definition (sort_in unit class)) → is_some (class_place (parts_at unit.types.types class)) ≡ true
    → (at : Reached) → IsAt w at (sort_in unit class) → (checked : Bool) (s : State) → IsTypedState w s → Ends w (AnswersFor unit number at.spot method) (method_of w.program at slot checked s)
method_ends w agreed routines closed methods unit number class slot method is object part at fits checked s typed = by fits.same where
  by : IsSeenAs w.program at.sort (sort_in unit class) → Ends w (AnswersFor unit number at.spot method) (method_of w.program at slot checked s)
  by (Letter e ks stored) = absurd (no_ordinal (definition (sort_in unit class)) host.Char object stored)
  by (Whole e ks stored) = absurd (no_ordinal (definition (sort_in unit class)) host.Integer object stored)
  by (Shared ka ks same) =
      let seen : Sort = sort_in unit class in
      let n = some_of (class_place (parts_at at.sort.table.types at.sort.ty)) (ap (λ (o : Option ℕ). is_some o) (place_shared w agreed at.sort seen ka ks same) ∙ part) in
      ends_bind (λ v found. HasClass v at.spot at.sort found) w (AnswersFor unit number at.spot method) (looked (class_at at) s) (dispatched_by w.program slot checked)
      (ends_looked (λ v found. HasClass v at.spot at.sort found) w (class_at at) s typed
      (class_instance w agreed s.store typed.store at n.0 ka (object_seen w.program agreed seen at.sort ks ka (sym same) object) fits.place n.1))
      (λ more found t typed' has. class_answers (after w more) agreed routines closed methods unit number class slot method is ks object at.spot at.sort same checked found has t typed')

-- a method is called by the class of an instance
pub by_class_ends : (w : World) → AreConsistent w.program → HasRoutines w.program → HasClasses w.program → HasMethods w.program → (again : Runs) → RunsBodies w.program again → (f : Activation) (number : ℕ) (withs : List TypeId)
    → IsActive w f number withs → (class : TypeId) (slot : ℕ) (method : Method) → slot_method (sort_in f.unit class) slot ≡ Some method → IsObject (definition (sort_in f.unit class))
    → is_some (class_place (parts_at f.unit.types.types class)) ≡ true → (at : Reached) → IsAt w at (sort_in f.unit class) → (checked : Bool) (xs : List Value) → AreTaken w f.unit method.header.params xs
    → (s : State) → IsTypedState w s → Ends w (GivesAs f.unit method.header.result) ((method_of w.program at slot checked >>= λ key. entered w.program again f key (Some at.spot) None xs) s)
by_class_ends w agreed routines closed methods again bodies f number withs active class slot method is object part at fits checked xs takes s typed =
    let go : Key → Does Value = λ key. entered w.program again f key (Some at.spot) None xs in
    ends_bind (AnswersFor f.unit number at.spot method) w (GivesAs f.unit method.header.result) (method_of w.program at slot checked s) go
    (method_ends w agreed routines closed methods f.unit number class slot method is object part at fits checked s typed) (λ more key t typed' one.
    named_ends (after w more) agreed routines again bodies f number withs (active_after w more f number withs active) key method.header one.callee one.names (Some at.spot) None one.instance xs
    (taken_after w more f.unit method.header.params xs takes) t typed')
