-- New gives typed nodes.
use Rattle.std.proofs.Common.{◌≡◌, ℕ, Bool, true, false, cond, List, [], length, Option, Some, None, refl, sym, subst, ap, ◌∙◌}
use Rattle.well_formed.specs.type_layout.declared.definitions.TypeId.{TypeId}
use Rattle.well_formed.specs.type_layout.declared.definitions.RoutineId.{RoutineId}
use Rattle.well_formed.specs.type_layout.declared.definitions.Kind.{Kind}
use Rattle.well_formed.specs.type_layout.declared.definitions.Kind.TheVariants as kind
use Rattle.well_formed.specs.type_layout.declared.definitions.Header.{Header}
use Rattle.well_formed.specs.type_layout.declared.definitions.Method.{Method}
use Rattle.well_formed.specs.type_layout.declared.definitions.TypeDef.{TypeDef}
use Rattle.well_formed.specs.type_layout.declared.definitions.TypeDef.TheVariants as type
use Rattle.well_formed.specs.type_layout.declared.texts.Place.{Place}
use Rattle.well_formed.specs.typed_tree.Expressions.{Expression, Arguments, Make}
use Rattle.well_formed.specs.typed_tree.type_fits.Fits.{definition, IsSome, IsPointer, Descends}
use Rattle.well_formed.specs.Scopes.{Prototype, Scope, HasRoutine}
use Rattle.well_formed.specs.Typed.{IsTyped, IsConstructorOf, MakeFits, TakeEach}
use Rattle.well_formed.specs.typed_tree.type_fits.Standard.{Link, new_block}
use Rattle.call_rules.specs.scopes.Environment.{Environment}
use Rattle.call_rules.specs.typing_rules.Selectors.{target_by, target_in}
use Rattle.call_rules.specs.Given.{arguments_of}
use Rattle.call_rules.specs.method_rules.Methods.{method_in}
use Rattle.call_rules.specs.allocation_rules.Allocations.{is_constructor, of_kind, member_at, blank_by, blank, Maker, constructor_by, constructor, made, newly_made}
use Rattle.rules_well_formed.specs.nodes.Tables.{IsSound}
use Rattle.rules_well_formed.specs.calls.Laws.{AreOperands}
use Rattle.rules_well_formed.proofs.calls.Given.{taken_alike, given_taken}
use Rattle.rules_well_formed.proofs.calls.Calls.{routine_as}
use Rattle.rules_well_formed.specs.methods.Declared.{IsMethod, HasMethods}
use Rattle.rules_well_formed.proofs.methods.Lines.{member_object}
use Rattle.rules_well_formed.proofs.methods.Bound.{here, header_in, named_callee}
use Rattle.rules_well_formed.specs.allocations.Laws.{IsMaker}

-- ---- a method of a kind

pub kind_by : (test : Kind → Bool) (found method : Method) (b : Bool) → test found.header.kind ≡ b → cond b (Some found) None ≡ Some method → (found ≡ method) × (test found.header.kind ≡ true)
kind_by test found method true is e =
    let same : found ≡ method = cc in
    (same, is)
kind_by test found method false is e = let bad : ⊥ = cc in absurd bad

pub of_that_kind : (test : Kind → Bool) (o : Option Method) (method : Method) → of_kind test o ≡ Some method → (o ≡ Some method) × (test method.header.kind ≡ true)
of_that_kind test None method e = let bad : ⊥ = cc in absurd bad
of_that_kind test (Some found) method e =
    let k = kind_by test found method (test found.header.kind) refl e in
    (ap (λ (m : Method). Some m) k.0, subst (λ (m : Method). test m.header.kind ≡ true) k.0 k.1)

constructor_kind : (k : Kind) → is_constructor k ≡ true → k ≡ kind.Constructor
constructor_kind kind.Constructor e = refl
constructor_kind k e = let bad : ⊥ = cc in absurd bad

pub points_by : (types : List TypeDef) (ty class : TypeId) (d : Option TypeDef) → target_by d ≡ Some class → d ≡ Some (type.PointerTo class)
points_by types ty class (Some (type.PointerTo target)) e =
    let same : target ≡ class = cc in
    ap (λ (t : TypeId). Some (type.PointerTo t)) same
points_by types ty class d e = let bad : ⊥ = cc in absurd bad

module _ (g : Environment) (s : Scope) (has : HasMethods g s) (sound : IsSound s.types) where
  maker_of : (place : Place) (ty class : TypeId) (name : List ℕ) (method : Method) (one : Maker) → definition s.types ty ≡ Some (type.PointerTo class)
      → (method_in g.types.types class name ≡ Some method) × (is_constructor method.header.kind ≡ true) → (constructor_by g place (Some method)).holds one → IsMaker s ty one
  maker_of place ty class name method one points k h =
      let f = here g s has sound class name method k.0 in
      let object = member_object s.types name f.member f.kind (length s.types) class f.is in
      let callee = named_callee g s has sound place class class name method f (0, refl) h.part h.holds in
      subst (λ (m : Maker). IsMaker s ty m) (sym h.made) (record {
        class = class;
        points = points;
        object = object;
        header = header_in g s has sound class name method f;
        kind = constructor_kind method.header.kind k.1;
        owner = callee.0;
        declared = callee.1;
        inherited = callee.2;
      })

  by_member : (place : Place) (ty class : TypeId) (name : List ℕ) (one : Maker) → definition s.types ty ≡ Some (type.PointerTo class) → (o : Option Method)
      → of_kind is_constructor (method_in g.types.types class name) ≡ o → (constructor_by g place o).holds one → IsMaker s ty one
  by_member place ty class name one points None is h = absurd h
  by_member place ty class name one points (Some method) is h =
      maker_of place ty class name method one points (of_that_kind is_constructor (method_in g.types.types class name) method is) h

  by_target : (place : Place) (ty : TypeId) (name : List ℕ) (one : Maker) → (o : Option TypeId) → target_in g.types.types (Some ty) ≡ o
      → (constructor_by g place (member_at is_constructor g.types.types o name)).holds one → IsMaker s ty one
  by_target place ty name one None is h = absurd h
  by_target place ty name one (Some class) is h =
      let points : definition s.types ty ≡ Some (type.PointerTo class) =
      subst (λ (t : List TypeDef). definition t ty ≡ Some (type.PointerTo class)) (sym has.types) (points_by g.types.types ty class (definition g.types.types ty) is) in
      by_member place ty class name one points (of_kind is_constructor (method_in g.types.types class name)) refl h

  pub constructor_found : (place : Place) (ty : TypeId) (name : List ℕ) (one : Maker) → (constructor g place ty name).holds one → IsMaker s ty one
  unfolding constructor
  constructor_found place ty name one h = by_target place ty name one (target_in g.types.types (Some ty)) refl h

-- ---- nodes

module _ (s : Scope) (sound : IsSound s.types) where
  pointer_known : (d : Option TypeDef) (target : TypeId) → d ≡ Some (type.PointerTo target) → IsSome d × IsPointer d
  pointer_known d target e = subst (λ (o : Option TypeDef). IsSome o × IsPointer o) (sym e) (tt, tt)

  blank_at : (place : Place) (ty : TypeId) (e : Expression) → (d : Option TypeDef) → definition s.types ty ≡ d → (blank_by place ty d).holds e → IsTyped s e
  blank_at place ty e (Some (type.PointerTo target)) is h =
      let known = pointer_known (definition s.types ty) target is in
      subst (λ (x : Expression). IsTyped s x) (sym h) (known.0, ([], Link, new_block, tt, known.1))
  blank_at place ty e d is h = absurd h

  pub blank_typed : (place : Place) (ty : TypeId) (e : Expression) → (blank s.types place ty).holds e → IsTyped s e
  unfolding blank
  blank_typed place ty e h = blank_at place ty e (definition s.types ty) refl h

  maker_seen : (class owner : TypeId) (header : Header) (args : Arguments) → header.kind ≡ kind.Constructor → Descends s.types class owner → TakeEach s header.params args
      → (one : Prototype) → IsMethod owner header one → IsConstructorOf s.types class one × TakeEach s one.header.params args
  maker_seen class owner header args k line h one is =
      let same = is.same in
      (record { kind = sym same.kind ∙ k; owner = owner; owned = is.owned; inherited = line }, taken_alike s header.params one.header.params args same.params h)

  make_fits : (class owner : TypeId) (header : Header) (routine : RoutineId) (args : Arguments) → header.kind ≡ kind.Constructor → HasRoutine (IsMethod owner header) s routine
      → Descends s.types class owner → TakeEach s header.params args → MakeFits s class routine (λ params. TakeEach s params args)
  make_fits class owner header routine args k declared line h =
      routine_as s (IsMethod owner header) (λ one. IsConstructorOf s.types class one × TakeEach s one.header.params args) (maker_seen class owner header args k line h)
      routine.unit routine.number declared

  pub made_typed : (place : Place) (checked : Bool) (ty : TypeId) (one : Maker) (es : List Expression) (e : Expression) → IsMaker s ty one → AreOperands s es
      → (made s.types place checked ty one es).holds e → IsTyped s e
  unfolding made
  made_typed place checked ty one es e maker oes h =
      let taken = given_taken s sound place checked one.header.params es h.part maker.header.params oes h.holds in
      subst (λ (x : Expression). IsTyped s x) (sym h.made)
      (maker.class, maker.points, maker.object, make_fits maker.class maker.owner one.header one.routine (arguments_of h.part) maker.kind maker.declared maker.inherited taken)

  pub newly_typed : (place : Place) (a e : Expression) → IsTyped s a → (newly_made place a).holds e → IsTyped s e
  newly_typed place (Make ty routine args) e typed h = subst (λ (x : Expression). IsTyped s x) (sym h) typed
  newly_typed place a e typed h = absurd h
