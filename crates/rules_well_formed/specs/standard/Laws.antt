-- Calls of standard functions give typed nodes, where their arguments are typed.
use Rattle.std.specs.Prelude.{ℕ, List}
use Rattle.well_formed.specs.type_layout.declared.definitions.TypeId.{TypeId}
use Rattle.well_formed.specs.type_layout.declared.texts.Place.{Place}
use Rattle.well_formed.specs.typed_tree.Expressions.{Expression}
use Rattle.well_formed.specs.Scopes.{Scope}
use Rattle.well_formed.specs.Typed.{IsTyped}
use Rattle.call_rules.specs.standard_rules.Standard.{standard}
use Rattle.call_rules.specs.standard_rules.Sizes.{sized, variable_sized}
use Rattle.rules_well_formed.specs.nodes.Tables.{IsSound}
use Rattle.rules_well_formed.specs.nodes.Laws.{IsOperand}
use Rattle.rules_well_formed.specs.calls.Laws.{AreOperands}

pub record GiveTyped (s : Scope) : Type 0 where
  -- each function has the number, the arguments and the result that trees have of it
  pub standard : (place : Place) (number : ℕ) (es : List Expression) (e : Expression) → AreOperands s es → (standard s.types place number es).holds e → IsTyped s e
  pub sized : (ty : TypeId) → IsTyped s (sized s.types ty)
  pub variable_sized : (place : Place) (a e : Expression) → IsOperand s a → (variable_sized s.types place a).holds e → IsTyped s e

abbrev pub StandardLaws : Type 0
StandardLaws = (s : Scope) → IsSound s.types → GiveTyped s
