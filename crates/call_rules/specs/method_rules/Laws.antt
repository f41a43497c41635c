-- What the judgements of methods promise.
use Rattle.std.specs.Prelude.{ℕ, Bool, List}
use Rattle.type_layout.specs.declared.definitions.TypeId.{TypeId}
use Rattle.type_layout.specs.declared.definitions.TypeDef.{TypeDef}
use Rattle.type_layout.specs.declared.texts.Place.{Place}
use Rattle.typed_tree.specs.Expressions as tree
use Rattle.typed_tree.specs.Expressions.{Expression}
use Rattle.scopes.specs.Environment.{Environment}
use Rattle.typing_rules.specs.Laws.{Lawful}
use Rattle.call_rules.specs.method_rules.Methods.{Bound, bound, inherited}
use Rattle.call_rules.specs.method_rules.Calls.{called_on, performed_on}

pub record AreLawful : Type 0 where
  pub bound : (g : Environment) (place : Place) (e : Expression) (name : List ℕ) → Lawful (bound g place e name)
  pub inherited : (g : Environment) (here place : Place) (class : TypeId) (at : tree.Place) (ancestor : TypeId) (name : List ℕ)
      → Lawful (inherited g here place class at ancestor name)
  pub called_on : (types : List TypeDef) (place : Place) (checked : Bool) (one : Bound) (es : List Expression) → Lawful (called_on types place checked one es)
  pub performed_on : (types : List TypeDef) (place : Place) (checked : Bool) (one : Bound) (es : List Expression) → Lawful (performed_on types place checked one es)
