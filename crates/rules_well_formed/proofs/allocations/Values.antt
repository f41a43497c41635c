-- Routines as values are typed.
use Rattle.std.proofs.Common.{◌≡◌, ℕ, zero, suc, Bool, true, false, List, Option, Some, refl, sym, subst, ◌∙◌}
use Rattle.std.specs.Prelude.{slice_get}
use Rattle.std.specs.Cmp.Lexicographic.{bytes_decides}
use Rattle.well_formed.specs.type_layout.declared.definitions.TypeId.{TypeId}
use Rattle.well_formed.specs.type_layout.declared.definitions.RoutineId.{RoutineId}
use Rattle.well_formed.specs.type_layout.declared.definitions.Header.{Header}
use Rattle.well_formed.specs.type_layout.declared.definitions.TypeDef.{TypeDef}
use Rattle.well_formed.specs.type_layout.declared.definitions.TypeDef.TheVariants as type
use Rattle.well_formed.specs.type_layout.declared.texts.Place.{Place}
use Rattle.well_formed.specs.type_layout.Words.{same_bytes}
use Rattle.well_formed.specs.typed_tree.Expressions.{Expression}
use Rattle.well_formed.specs.typed_tree.type_fits.Fits.{definition, AreSameHeaders}
use Rattle.well_formed.specs.Scopes.{Prototype, Scope, IsNamed, IsOfSource, IsRoutineAt, HasRoutine}
use Rattle.well_formed.specs.Typed.{IsTyped, IsRoutineValue}
use Rattle.call_rules.specs.scopes.Environment.{Environment}
use Rattle.call_rules.specs.typing_rules.declared.faults.Fault.{Fault}
use Rattle.call_rules.specs.procedural_rules.Values.{overlay, is_overlay, value_by, routine_value}
use Rattle.rules_well_formed.proofs.calls.Calls.{routine_as}
use Rattle.rules_well_formed.specs.methods.Declared.{HasMethods}
use Rattle.rules_well_formed.specs.allocations.Laws.{MayBeValue}

as_wanted : (wanted header : Header) → AreSameHeaders wanted header → (one : Prototype) → IsRoutineValue header one → IsRoutineValue wanted one
as_wanted wanted header k one h =
    let same = h.same in
    record {
      far = h.far;
      free = h.free;
      outermost = h.outermost;
      same = record { kind = k.kind ∙ same.kind; params = k.params ∙ same.params; result = k.result ∙ same.result };
    }

has_wanted : (s : Scope) (wanted header : Header) → AreSameHeaders wanted header → (unit number : ℕ) → IsRoutineAt (IsRoutineValue header) s unit number → IsRoutineAt (IsRoutineValue wanted) s unit number
has_wanted s wanted header k unit number h = routine_as s (IsRoutineValue header) (IsRoutineValue wanted) (as_wanted wanted header k) unit number h

-- which of two names is tested for the other matters not
turned_by : (one other : List ℕ) → same_bytes one other ≡ false → (b : Bool) → same_bytes other one ≡ b → b ≡ false
turned_by one other differs true is =
    let yes : same_bytes one other ≡ true = (bytes_decides one other).1 (sym ((bytes_decides other one).0 is)) in
    let bad : ⊥ = cc in
    absurd bad
turned_by one other differs false is = refl

module _ (g : Environment) (s : Scope) (has : HasMethods g s) where
  -- a unit that has a name, which isn't that of the unit Overlay, has a source
  of_source : (unit : ℕ) → IsNamed s unit → is_overlay (slice_get g.units unit) ≡ false → IsOfSource s unit
  of_source zero named known = tt
  of_source (suc unit) named known =
      let called = has.units (record { number = suc unit; name = named.0 }) named.1 in
      let differs : same_bytes overlay named.0 ≡ false = subst (λ (o : Option (List ℕ)). is_overlay o ≡ false) called known in
      (named.0, named.1, turned_by overlay named.0 differs (same_bytes named.0 overlay) refl)

  value_at : (place : Place) (fault : Fault) (ty : TypeId) (routine : RoutineId) (header : Header) (e : Expression) → HasRoutine (IsRoutineValue header) s routine → IsOfSource s routine.unit
      → (d : Option TypeDef) → definition g.types.types ty ≡ d → (value_by fault ty d routine header).holds e → IsTyped s e
  value_at place fault ty routine header e there source (Some (type.Procedural wanted)) is h =
      let at : definition s.types ty ≡ Some (type.Procedural wanted) = subst (λ (t : List TypeDef). definition t ty ≡ Some (type.Procedural wanted)) (sym has.types) is in
      subst (λ (x : Expression). IsTyped s x) (sym h.made) (wanted, at, has_wanted s wanted header h.asked routine.unit routine.number there, source)
  value_at place fault ty routine header e there source d is h = absurd h

  pub value_typed : (place : Place) (fault : Fault) (ty : TypeId) (routine : RoutineId) (level : ℕ) (header : Header) (far : Bool) (e : Expression) → MayBeValue s routine level header far
      → (routine_value g place fault ty routine level header far).holds e → IsTyped s e
  unfolding routine_value
  value_typed place fault ty routine level header far e may h =
      let held = h.holds.asked in
      let there = may held.is_far held.is_outermost in
      value_at place fault ty routine header e there.0 (of_source routine.unit there.1 held.is_declared) (definition g.types.types ty) refl h.made
