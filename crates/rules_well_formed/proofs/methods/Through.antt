-- Calls through variables are typed.
use Rattle.std.proofs.Common.{◌≡◌, inl, Bool, false, List, [], Option, Some, None, refl, sym, subst}
use Rattle.well_formed.specs.type_layout.declared.definitions.TypeId.{TypeId}
use Rattle.well_formed.specs.type_layout.declared.definitions.TypeDef.{TypeDef}
use Rattle.well_formed.specs.type_layout.declared.definitions.TypeDef.TheVariants as type
use Rattle.well_formed.specs.type_layout.declared.texts.Place.{Place}
use Rattle.well_formed.specs.typed_tree.Expressions as tree
use Rattle.well_formed.specs.typed_tree.Expressions.{Expression, Arguments, Load, CallThrough}
use Rattle.well_formed.specs.typed_tree.type_fits.Fits.{definition}
use Rattle.well_formed.specs.Scopes.{Scope}
use Rattle.well_formed.specs.Typed.{IsTyped, HasPlace, TakeEach}
use Rattle.call_rules.specs.Given.{arguments_of}
use Rattle.call_rules.specs.procedural_rules.Through.{Held, held_to, held_by, held_of, held_routine, through, result_through, called_through, result_performed, performed_through, settled_by, settled_of, settled}
use Rattle.rules_well_formed.specs.nodes.Tables.{IsHeaderIn, IsSound}
use Rattle.rules_well_formed.specs.nodes.Laws.{IsOperand}
use Rattle.rules_well_formed.proofs.nodes.Indexed.{loaded_from}
use Rattle.rules_well_formed.specs.calls.Laws.{AreOperands}
use Rattle.rules_well_formed.proofs.calls.Given.{given_taken}
use Rattle.rules_well_formed.proofs.calls.Calls.{has_result}
use Rattle.rules_well_formed.specs.methods.Declared.{Holds}

module _ (s : Scope) (sound : IsSound s.types) where
  held_at : (place : Place) (ty : TypeId) (at : tree.Place) (one : Held) → HasPlace s at ty → (d : Option TypeDef) → definition s.types ty ≡ d → (held_by place at d).holds one → Holds s one
  held_at place ty at one there (Some (type.Procedural header)) is h = subst (λ (o : Held). Holds s o) (sym h) (record { of = ty; is = is; place = there })
  held_at place ty at one there d is h = absurd h

  held_one : (place : Place) (a : Expression) (one : Held) → IsOperand s a → (held_of s.types place a).holds one → Holds s one
  held_one place (Load ty at) one oa h = held_at place ty at one (loaded_from s ty at oa).1 (definition s.types ty) refl h
  held_one place a one oa h = absurd h

  pub held_typed : (place : Place) (a : Expression) (one : Held) → IsOperand s a → (held_routine s.types place a).holds one → Holds s one
  unfolding held_routine
  held_typed place a one oa h = held_one place a one oa h

  -- ---- calls

  header_in : (one : Held) → Holds s one → IsHeaderIn s.types one.header
  header_in one h = sound.names h.of (type.Procedural one.header) h.is

  node_typed : (one : Held) (args : Arguments) → Holds s one → TakeEach s one.header.params args → IsTyped s (CallThrough one.header.result one.at args)
  node_typed one args held h = (has_result s one.header.result (header_in one held).result, (held.of, one.header, held.is, refl, held.place, h))

  by_result : (place : Place) (checked : Bool) (one : Held) (es : List Expression) (e : Expression) → Holds s one → AreOperands s es → (o : Option TypeId) → one.header.result ≡ o
      → (through s.types place checked one o es).holds e → IsTyped s e
  by_result place checked one es e held oes o is h =
      let taken = given_taken s sound place checked one.header.params es h.part (header_in one held).params oes h.holds in
      let typed = node_typed one (arguments_of h.part) held taken in
      subst (λ (x : Expression). IsTyped s x) (sym h.made) (subst (λ (r : Option TypeId). IsTyped s (CallThrough r one.at (arguments_of h.part))) is typed)

  called_by : (place : Place) (checked : Bool) (one : Held) (es : List Expression) (e : Expression) → Holds s one → AreOperands s es → (o : Option TypeId) → one.header.result ≡ o
      → (result_through s.types place checked one o es).holds e → IsTyped s e
  called_by place checked one es e held oes None is h = absurd h
  called_by place checked one es e held oes (Some ty) is h = by_result place checked one es e held oes (Some ty) is h

  pub called_typed : (place : Place) (checked : Bool) (one : Held) (es : List Expression) (e : Expression) → Holds s one → AreOperands s es → (called_through s.types place checked one es).holds e → IsTyped s e
  unfolding called_through
  called_typed place checked one es e held oes h = called_by place checked one es e held oes one.header.result refl h

  performed_by : (place : Place) (checked : Bool) (one : Held) (es : List Expression) (e : Expression) → Holds s one → AreOperands s es → (o : Option TypeId) → one.header.result ≡ o
      → (result_performed s.types place checked one o es).holds e → IsTyped s e
  performed_by place checked one es e held oes None is h = by_result place checked one es e held oes None is h
  performed_by place checked one es e held oes (Some ty) is h = absurd h

  pub performed_typed : (place : Place) (checked : Bool) (one : Held) (es : List Expression) (e : Expression) → Holds s one → AreOperands s es → (performed_through s.types place checked one es).holds e → IsTyped s e
  unfolding performed_through
  performed_typed place checked one es e held oes h = performed_by place checked one es e held oes one.header.result refl h

  -- ---- what a variable is for its value

  settled_at : (place : Place) (ty : TypeId) (at : tree.Place) (e : Expression) → IsOperand s (Load ty at) → (d : Option TypeDef) → definition s.types ty ≡ d
      → (settled_by s.types place ty at d).holds e → IsOperand s e
  settled_at place ty at e oa (Some (type.Procedural header)) is h =
      inl (called_typed place false (held_to header at) [] e (record { of = ty; is = is; place = (loaded_from s ty at oa).1 }) tt h)
  settled_at place ty at e oa d is h = subst (λ (x : Expression). IsOperand s x) (sym h) oa

  settled_one : (place : Place) (a e : Expression) → IsOperand s a → (settled_of s.types place a).holds e → IsOperand s e
  settled_one place (Load ty at) e oa h = settled_at place ty at e oa (definition s.types ty) refl h
  settled_one place a e oa h = subst (λ (x : Expression). IsOperand s x) (sym h) oa

  pub settled_typed : (place : Place) (a e : Expression) → IsOperand s a → (settled s.types place a).holds e → IsOperand s e
  unfolding settled
  settled_typed place a e oa h = settled_one place a e oa h
