-- Calls of methods are typed.
use Rattle.std.proofs.Common.{◌≡◌, ℕ, Bool, List, Option, Some, None, refl, sym, subst}
use Rattle.well_formed.specs.type_layout.declared.definitions.TypeId.{TypeId}
use Rattle.well_formed.specs.type_layout.declared.definitions.RoutineId.{RoutineId}
use Rattle.well_formed.specs.type_layout.declared.definitions.Header.{Header}
use Rattle.well_formed.specs.type_layout.declared.texts.Place.{Place}
use Rattle.well_formed.specs.typed_tree.Expressions as tree
use Rattle.well_formed.specs.typed_tree.Expressions.{Expression, Arguments, Own}
use Rattle.well_formed.specs.typed_tree.type_fits.Fits.{definition, IsObject, Descends}
use Rattle.well_formed.specs.Scopes.{Prototype, Scope, HasRoutine, IsWithin}
use Rattle.well_formed.specs.Typed.{IsTyped, HasPlace, CallFits, SlotFits, IsOwn, TakeEach}
use Rattle.call_rules.specs.Given.{arguments_of}
use Rattle.call_rules.specs.declared.method_rules.methods.Callee.{Callee}
use Rattle.call_rules.specs.declared.method_rules.methods.Callee.TheVariants as callee
use Rattle.call_rules.specs.method_rules.Methods.{Bound}
use Rattle.call_rules.specs.method_rules.Calls.{node_of, call_of, result_called, called_on, result_performed, performed_on}
use Rattle.rules_well_formed.specs.nodes.Tables.{IsResultIn, IsSound}
use Rattle.rules_well_formed.specs.calls.Laws.{AreOperands}
use Rattle.rules_well_formed.proofs.calls.Given.{taken_alike, given_taken}
use Rattle.rules_well_formed.proofs.calls.Calls.{has_result, routine_as}
use Rattle.rules_well_formed.specs.methods.Declared.{IsMethod, IsCallee, IsBound}

module _ (s : Scope) (class : TypeId) (own : tree.Place) (object : IsObject (definition s.types class)) (there : HasPlace s own class) where
  -- a method that is known by its header is called as that says
  method_seen : (header : Header) (owner : TypeId) (args : Arguments) → Descends s.types class owner → TakeEach s header.params args → (one : Prototype) → IsMethod owner header one
      → (one.header.result ≡ header.result) × (one.owner ≡ None → IsWithin s.around one.outer) × IsOwn s one.owner (Own own) × TakeEach s one.header.params args
  method_seen header owner args line h one is =
      let owned = is.owned in
      let same = is.same in (
        sym same.result,
        λ free. (let bad : ⊥ = cc in absurd bad),
        subst (λ (o : Option TypeId). IsOwn s o (Own own)) (sym owned) (class, there, line),
        taken_alike s header.params one.header.params args same.params h,
      )

  method_fits : (routine : RoutineId) (header : Header) (owner : TypeId) (args : Arguments) → HasRoutine (IsMethod owner header) s routine → Descends s.types class owner → TakeEach s header.params args
      → CallFits s routine header.result (λ o. IsOwn s o (Own own)) (λ params. TakeEach s params args)
  method_fits routine header owner args declared line h =
      routine_as s (IsMethod owner header)
      (λ one. (one.header.result ≡ header.result) × (one.owner ≡ None → IsWithin s.around one.outer) × IsOwn s one.owner (Own own) × TakeEach s one.header.params args)
      (method_seen header owner args line h) routine.unit routine.number declared

  -- so is one in a slot
  slot_fits : (slot : ℕ) (header : Header) (args : Arguments) → IsCallee s class header (callee.Slot slot) → TakeEach s header.params args
      → SlotFits s.types class slot (λ one. (one.result ≡ header.result) × TakeEach s one.params args)
  slot_fits slot header args declared h = (
    declared.0,
    declared.1,
    subst (λ (one : Header). (one.result ≡ header.result) × TakeEach s one.params args) (sym declared.2) (refl, h),
  )

  node_typed : (header : Header) (one : Callee) (checked : Bool) (args : Arguments) → IsCallee s class header one → IsResultIn s.types header.result → TakeEach s header.params args
      → IsTyped s (node_of one own header.result checked args)
  node_typed header (callee.Routine routine) checked args declared result h =
      (has_result s header.result result, method_fits routine header declared.0 args declared.1 declared.2 h)
  node_typed header (callee.Slot slot) checked args declared result h =
      (has_result s header.result result, (class, object, there, slot_fits slot header args declared h))

module _ (s : Scope) (sound : IsSound s.types) (place : Place) (checked : Bool) (one : Bound) (es : List Expression) (e : Expression) (bound : IsBound s one) (oes : AreOperands s es) where
  by_result : (o : Option TypeId) → one.header.result ≡ o → (call_of s.types place checked one o es).holds e → IsTyped s e
  by_result o is h =
      let taken = given_taken s sound place checked one.header.params es h.part bound.header.params oes h.holds in
      let typed = node_typed s bound.class one.own bound.object bound.place one.header one.callee checked (arguments_of h.part) bound.callee bound.header.result taken in
      subst (λ (x : Expression). IsTyped s x) (sym h.made) (subst (λ (r : Option TypeId). IsTyped s (node_of one.callee one.own r checked (arguments_of h.part))) is typed)

  called_by : (o : Option TypeId) → one.header.result ≡ o → (result_called s.types place checked one o es).holds e → IsTyped s e
  called_by None is h = absurd h
  called_by (Some ty) is h = by_result (Some ty) is h

  pub called_typed : (called_on s.types place checked one es).holds e → IsTyped s e
  unfolding called_on
  called_typed h = called_by one.header.result refl h

  performed_by : (o : Option TypeId) → one.header.result ≡ o → (result_performed s.types place checked one o es).holds e → IsTyped s e
  performed_by None is h = by_result None is h
  performed_by (Some ty) is h = absurd h

  pub performed_typed : (performed_on s.types place checked one es).holds e → IsTyped s e
  unfolding performed_on
  performed_typed h = performed_by one.header.result refl h
