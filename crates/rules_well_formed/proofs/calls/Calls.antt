-- Calls of routines are typed.
use Rattle.std.proofs.Common.{◌≡◌, ℕ, zero, suc, Bool, List, Option, Some, None, refl, sym, subst}
use Rattle.well_formed.specs.type_layout.declared.definitions.TypeId.{TypeId}
use Rattle.well_formed.specs.type_layout.declared.definitions.RoutineId.{RoutineId}
use Rattle.well_formed.specs.type_layout.declared.definitions.Header.{Header}
use Rattle.well_formed.specs.type_layout.declared.texts.Place.{Place}
use Rattle.well_formed.specs.typed_tree.Expressions.{Expression, Arguments, Call, NoReceiver}
use Rattle.well_formed.specs.Scopes.{Prototype, prototype, Scope, HasResult, IsRoutineAt, IsWithin}
use Rattle.well_formed.specs.Typed.{IsTyped, CallFits, IsOwn, TakeEach}
use Rattle.call_rules.specs.Given.{Handed, arguments_of, result_called, called, result_performed, performed}
use Rattle.rules_well_formed.specs.nodes.Tables.{IsResultIn, IsHeaderIn, IsSound}
use Rattle.rules_well_formed.specs.calls.Laws.{AreOperands, IsFree, IsDeclared}
use Rattle.rules_well_formed.proofs.calls.Given.{taken_alike, given_taken}

-- what is known of a routine may be told otherwise
pub routine_as : (s : Scope) (A B : Prototype → Type 0) → ((one : Prototype) → A one → B one) → (unit number : ℕ) → IsRoutineAt A s unit number → IsRoutineAt B s unit number
routine_as s A B f zero number h = (h.0, h.1, f (prototype h.0) h.2)
routine_as s A B f (suc unit) number h = (h.0, h.1, f h.0 h.2)

module _ (s : Scope) where
  call_seen : (header : Header) (args : Arguments) → TakeEach s header.params args → (one : Prototype) → IsFree header one × IsWithin s.around one.outer
      → (one.header.result ≡ header.result) × (one.owner ≡ None → IsWithin s.around one.outer) × IsOwn s one.owner NoReceiver × TakeEach s one.header.params args
  call_seen header args h one declared =
      let free = declared.0.free in
      let same = declared.0.same in
      (sym same.result, λ none. declared.1, subst (λ (o : Option TypeId). IsOwn s o NoReceiver) (sym free) tt, taken_alike s header.params one.header.params args same.params h)

  call_fits : (routine : RoutineId) (header : Header) (args : Arguments) → IsDeclared s routine header → TakeEach s header.params args
      → CallFits s routine header.result (λ owner. IsOwn s owner NoReceiver) (λ params. TakeEach s params args)
  call_fits routine header args declared h =
      routine_as s (λ one. IsFree header one × IsWithin s.around one.outer)
      (λ one. (one.header.result ≡ header.result) × (one.owner ≡ None → IsWithin s.around one.outer) × IsOwn s one.owner NoReceiver × TakeEach s one.header.params args)
      (call_seen header args h) routine.unit routine.number declared

  pub has_result : (o : Option TypeId) → IsResultIn s.types o → HasResult s o
  has_result None h = tt
  has_result (Some ty) h = h

  call_typed : (routine : RoutineId) (header : Header) (args : Arguments) → IsDeclared s routine header → IsHeaderIn s.types header → TakeEach s header.params args
      → IsTyped s (Call header.result routine NoReceiver args)
  call_typed routine header args declared there h =
      (has_result header.result there.result, call_fits routine header args declared h)

module _ (s : Scope) (sound : IsSound s.types) (place : Place) (checked : Bool) (routine : RoutineId) (header : Header) (es : List Expression) (e : Expression)
    (declared : IsDeclared s routine header) (there : IsHeaderIn s.types header) (oes : AreOperands s es) where
  made : (o : Option TypeId) → header.result ≡ o → (all : List Handed) → TakeEach s header.params (arguments_of all) → e ≡ Call o routine NoReceiver (arguments_of all) → IsTyped s e
  made o is all h m =
      subst (λ (x : Expression). IsTyped s x) (sym m)
      (subst (λ (r : Option TypeId). IsTyped s (Call r routine NoReceiver (arguments_of all))) is (call_typed s routine header (arguments_of all) declared there h))

  called_by : (o : Option TypeId) → header.result ≡ o → (result_called s.types place checked routine header o es).holds e → IsTyped s e
  called_by None is h = absurd h
  called_by (Some ty) is h = made (Some ty) is h.part (given_taken s sound place checked header.params es h.part there.params oes h.holds) h.made

  pub called_typed : (called s.types place checked routine header es).holds e → IsTyped s e
  unfolding called
  called_typed h = called_by header.result refl h

  performed_by : (o : Option TypeId) → header.result ≡ o → (result_performed s.types place checked routine header o es).holds e → IsTyped s e
  performed_by None is h = made None is h.part (given_taken s sound place checked header.params es h.part there.params oes h.holds) h.made
  performed_by (Some ty) is h = absurd h

  pub performed_typed : (performed s.types place checked routine header es).holds e → IsTyped s e
  unfolding performed
  performed_typed h = performed_by header.result refl h
