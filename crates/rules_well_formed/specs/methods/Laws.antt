-- Calls of methods and through variables give typed nodes.
use Rattle.std.specs.Prelude.{ℕ, Bool, List}
use Rattle.well_formed.specs.type_layout.declared.definitions.TypeId.{TypeId}
use Rattle.well_formed.specs.type_layout.declared.texts.Place.{Place}
use Rattle.well_formed.specs.typed_tree.Expressions as tree
use Rattle.well_formed.specs.typed_tree.Expressions.{Expression}
use Rattle.well_formed.specs.Scopes.{Scope}
use Rattle.well_formed.specs.Typed.{IsTyped, HasPlace}
use Rattle.call_rules.specs.scopes.Environment.{Environment}
use Rattle.call_rules.specs.method_rules.Methods.{Bound, bound, inherited}
use Rattle.call_rules.specs.method_rules.Calls.{called_on, performed_on}
use Rattle.call_rules.specs.procedural_rules.Through.{Held, held_routine, called_through, performed_through, settled}
use Rattle.rules_well_formed.specs.nodes.Tables.{IsSound}
use Rattle.rules_well_formed.specs.nodes.Laws.{IsOperand}
use Rattle.rules_well_formed.specs.calls.Laws.{AreOperands}
use Rattle.rules_well_formed.specs.methods.Declared.{HasMethods, IsBound, Holds}

pub record AreBound (g : Environment) (s : Scope) : Type 0 where
  pub bound : (place : Place) (a : Expression) (name : List ℕ) (one : Bound) → IsOperand s a → (bound g place a name).holds one → IsBound s one
  pub inherited : (here place : Place) (class : TypeId) (at : tree.Place) (ancestor : TypeId) (name : List ℕ) (one : Bound) → HasPlace s at class
      → (inherited g here place class at ancestor name).holds one → IsBound s one

pub record GiveTyped (s : Scope) : Type 0 where
  pub called_on : (place : Place) (checked : Bool) (one : Bound) (es : List Expression) (e : Expression) → IsBound s one → AreOperands s es
      → (called_on s.types place checked one es).holds e → IsTyped s e
  pub performed_on : (place : Place) (checked : Bool) (one : Bound) (es : List Expression) (e : Expression) → IsBound s one → AreOperands s es
      → (performed_on s.types place checked one es).holds e → IsTyped s e
  pub held_routine : (place : Place) (a : Expression) (one : Held) → IsOperand s a → (held_routine s.types place a).holds one → Holds s one
  pub called_through : (place : Place) (checked : Bool) (one : Held) (es : List Expression) (e : Expression) → Holds s one → AreOperands s es
      → (called_through s.types place checked one es).holds e → IsTyped s e
  pub performed_through : (place : Place) (checked : Bool) (one : Held) (es : List Expression) (e : Expression) → Holds s one → AreOperands s es
      → (performed_through s.types place checked one es).holds e → IsTyped s e
  -- what stands in an expression is an operand again
  pub settled : (place : Place) (a e : Expression) → IsOperand s a → (settled s.types place a).holds e → IsOperand s e

abbrev pub BoundLaws : Type 0
BoundLaws = (g : Environment) (s : Scope) → HasMethods g s → IsSound s.types → AreBound g s

abbrev pub MethodLaws : Type 0
MethodLaws = (s : Scope) → IsSound s.types → GiveTyped s
