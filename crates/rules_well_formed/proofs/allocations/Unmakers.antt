-- Dispose gives well-formed statements.
use Rattle.std.proofs.Common.{◌≡◌, inl, inr, ℕ, Bool, true, List, length, Option, Some, None, refl, sym, subst, ap, ◌∙◌}
use Rattle.std.specs.Option.{option_and_then}
use Rattle.well_formed.specs.type_layout.declared.definitions.TypeId.{TypeId}
use Rattle.well_formed.specs.type_layout.declared.definitions.Kind.{Kind}
use Rattle.well_formed.specs.type_layout.declared.definitions.Kind.TheVariants as kind
use Rattle.well_formed.specs.type_layout.declared.definitions.Header.{Header}
use Rattle.well_formed.specs.type_layout.declared.definitions.Method.{Method}
use Rattle.well_formed.specs.type_layout.declared.definitions.TypeDef.{TypeDef}
use Rattle.well_formed.specs.type_layout.declared.definitions.TypeDef.TheVariants as type
use Rattle.well_formed.specs.type_layout.declared.texts.Place.{Place}
use Rattle.well_formed.specs.typed_tree.Expressions.{Expression, Arguments, type_of}
use Rattle.well_formed.specs.typed_tree.Statements.{Statement}
use Rattle.well_formed.specs.typed_tree.type_fits.Fits.{definition, Descends}
use Rattle.well_formed.specs.Scopes.{Prototype, Scope}
use Rattle.well_formed.specs.Typed.{IsTyped, TakeEach, sort_of}
use Rattle.well_formed.specs.WellFormed.{IsDestructorOf, IsDestructor, IsStatement}
use Rattle.call_rules.specs.scopes.Environment.{Environment}
use Rattle.call_rules.specs.typing_rules.Wanted.{nil}
use Rattle.call_rules.specs.typing_rules.Selectors.{target_by, target_in, target_of}
use Rattle.call_rules.specs.Given.{arguments_of}
use Rattle.call_rules.specs.declared.method_rules.methods.Callee.{Callee}
use Rattle.call_rules.specs.declared.method_rules.methods.Callee.TheVariants as callee
use Rattle.call_rules.specs.method_rules.Methods.{method_in}
use Rattle.call_rules.specs.allocation_rules.Allocations.{is_destructor, of_kind, Unmaker, destructor_in, destructor_by, destructor_of, destructor_as, unmade}
use Rattle.rules_well_formed.specs.nodes.Tables.{IsSound}
use Rattle.rules_well_formed.specs.nodes.Laws.{IsOperand}
use Rattle.rules_well_formed.proofs.nodes.Wanting.{no_type}
use Rattle.rules_well_formed.specs.calls.Laws.{AreOperands}
use Rattle.rules_well_formed.proofs.calls.Given.{taken_alike, given_taken}
use Rattle.rules_well_formed.proofs.calls.Calls.{routine_as}
use Rattle.rules_well_formed.specs.methods.Declared.{IsMethod, HasMethods, IsCallee}
use Rattle.rules_well_formed.proofs.methods.Lines.{member_object}
use Rattle.rules_well_formed.proofs.methods.Bound.{here, header_in, callee_bound}
use Rattle.rules_well_formed.specs.allocations.Laws.{IsUnmaker}
use Rattle.rules_well_formed.proofs.allocations.Makers.{of_that_kind, points_by}

destructor_kind : (k : Kind) → is_destructor k ≡ true → k ≡ kind.Destructor
destructor_kind kind.Destructor e = refl
destructor_kind k e = let bad : ⊥ = cc in absurd bad

points_at : (types : List TypeDef) (o : Option TypeId) (class : TypeId) → target_in types o ≡ Some class → option_and_then (definition types) o ≡ Some (type.PointerTo class)
points_at types None class e = let bad : ⊥ = cc in absurd bad
points_at types (Some ty) class e = points_by types ty class (definition types ty) e

module _ (g : Environment) (s : Scope) (has : HasMethods g s) (sound : IsSound s.types) where
  nil_leads : target_of s.types nil ≡ None
  nil_leads = ap (λ (o : Option TypeDef). target_by o) (no_type s sound)

  typed_one : (a : Expression) (class : TypeId) → IsOperand s a → target_of s.types a ≡ Some class → IsTyped s a
  typed_one a class (inl typed) e = typed
  typed_one a class (inr none) e =
      let lead : target_of s.types a ≡ None = ap (λ (x : Expression). target_of s.types x) none ∙ nil_leads in
      let bad : ⊥ = cc in
      absurd bad

  unmaker_of : (place : Place) (a : Expression) (class : TypeId) (name : List ℕ) (method : Method) (one : Unmaker) → IsTyped s a → sort_of s.types a ≡ Some (type.PointerTo class)
      → (method_in g.types.types class name ≡ Some method) × (is_destructor method.header.kind ≡ true) → (destructor_in g place class name (Some method)).holds one → IsUnmaker s a one
  unmaker_of place a class name method one typed points k h =
      let f = here g s has sound class name method k.0 in
      subst (λ (m : Unmaker). IsUnmaker s a m) (sym h.made) (record {
        class = class;
        typed = typed;
        points = points;
        object = member_object s.types name f.member f.kind (length s.types) class f.is;
        header = header_in g s has sound class name method f;
        kind = destructor_kind method.header.kind k.1;
        callee = callee_bound g s has sound place class name method f h.part h.holds;
      })

  by_member : (place : Place) (a : Expression) (class : TypeId) (name : List ℕ) (one : Unmaker) → IsTyped s a → sort_of s.types a ≡ Some (type.PointerTo class) → (o : Option Method)
      → of_kind is_destructor (method_in g.types.types class name) ≡ o → (destructor_in g place class name o).holds one → IsUnmaker s a one
  by_member place a class name one typed points None is h = absurd h
  by_member place a class name one typed points (Some method) is h =
      unmaker_of place a class name method one typed points (of_that_kind is_destructor (method_in g.types.types class name) method is) h

  by_target : (place : Place) (a : Expression) (name : List ℕ) (one : Unmaker) → IsOperand s a → (o : Option TypeId) → target_of g.types.types a ≡ o → (destructor_by g place name o).holds one → IsUnmaker s a one
  by_target place a name one oa None is h = absurd h
  by_target place a name one oa (Some class) is h =
      let at : target_of s.types a ≡ Some class = subst (λ (t : List TypeDef). target_of t a ≡ Some class) (sym has.types) is in
      by_member place a class name one (typed_one a class oa at) (points_at s.types (type_of a) class at) (of_kind is_destructor (method_in g.types.types class name)) refl h

  pub destructor_found : (place : Place) (a : Expression) (name : List ℕ) (one : Unmaker) → IsOperand s a → (destructor_of g place a name).holds one → IsUnmaker s a one
  unfolding destructor_of
  destructor_found place a name one oa h = by_target place a name one oa (target_of g.types.types a) refl h

module _ (s : Scope) (sound : IsSound s.types) where
  unmaker_seen : (class owner : TypeId) (header : Header) (args : Arguments) → header.kind ≡ kind.Destructor → Descends s.types class owner → TakeEach s header.params args
      → (one : Prototype) → IsMethod owner header one → IsDestructorOf s.types class one × TakeEach s one.header.params args
  unmaker_seen class owner header args k line h one is =
      let same = is.same in
      (record { kind = sym same.kind ∙ k; owner = owner; owned = is.owned; inherited = line }, taken_alike s header.params one.header.params args same.params h)

  destructor_by_callee : (class : TypeId) (header : Header) (one : Callee) (checked : Bool) (args : Arguments) → header.kind ≡ kind.Destructor → IsCallee s class header one → TakeEach s header.params args
      → IsDestructor s class (destructor_as checked one) args
  destructor_by_callee class header (callee.Routine routine) checked args k declared h =
      routine_as s (IsMethod declared.0 header) (λ one. IsDestructorOf s.types class one × TakeEach s one.header.params args)
      (unmaker_seen class declared.0 header args k declared.2 h) routine.unit routine.number declared.1
  destructor_by_callee class header (callee.Slot slot) checked args k declared h =
      (declared.0, declared.1, subst (λ (one : Header). TakeEach s one.params args) (sym declared.2) h)

  pub unmade_well : (place : Place) (checked : Bool) (a : Expression) (one : Unmaker) (es : List Expression) (statement : Statement) → IsUnmaker s a one → AreOperands s es
      → (unmade s.types place checked a one es).holds statement → IsStatement s statement
  unfolding unmade
  unmade_well place checked a one es statement u oes h =
      let taken = given_taken s sound place checked one.header.params es h.part u.header.params oes h.holds in
      subst (λ (x : Statement). IsStatement s x) (sym h.made) (record {
        class = u.class;
        typed = u.typed;
        points = u.points;
        object = u.object;
        destructor = destructor_by_callee u.class one.header one.callee checked (arguments_of h.part) u.kind u.callee taken;
      })
