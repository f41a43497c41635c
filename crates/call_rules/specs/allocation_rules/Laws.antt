-- What the judgements of New and Dispose promise.
use Rattle.std.specs.Prelude.{ℕ, Bool, List}
use Rattle.type_layout.specs.declared.definitions.TypeId.{TypeId}
use Rattle.type_layout.specs.declared.definitions.TypeDef.{TypeDef}
use Rattle.type_layout.specs.declared.texts.Place.{Place}
use Rattle.typed_tree.specs.Expressions.{Expression}
use Rattle.scopes.specs.Environment.{Environment}
use Rattle.typing_rules.specs.Laws.{Lawful}
use Rattle.call_rules.specs.allocation_rules.Allocations.{blank, Maker, constructor, made, newly_made, Unmaker, destructor_of, unmade}

pub record AreLawful : Type 0 where
  pub blank : (types : List TypeDef) (place : Place) (ty : TypeId) → Lawful (blank types place ty)
  pub constructor : (g : Environment) (place : Place) (ty : TypeId) (name : List ℕ) → Lawful (constructor g place ty name)
  pub made : (types : List TypeDef) (place : Place) (checked : Bool) (ty : TypeId) (one : Maker) (es : List Expression) → Lawful (made types place checked ty one es)
  pub newly_made : (place : Place) (e : Expression) → Lawful (newly_made place e)
  pub destructor_of : (g : Environment) (place : Place) (e : Expression) (name : List ℕ) → Lawful (destructor_of g place e name)
  pub unmade : (types : List TypeDef) (place : Place) (checked : Bool) (e : Expression) (one : Unmaker) (es : List Expression) → Lawful (unmade types place checked e one es)
