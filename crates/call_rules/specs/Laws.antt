-- What the judgements of conversions and calls promise.
use Rattle.std.specs.Prelude.{Bool, List}
use Rattle.type_layout.specs.declared.definitions.TypeId.{TypeId}
use Rattle.type_layout.specs.declared.definitions.RoutineId.{RoutineId}
use Rattle.type_layout.specs.declared.definitions.Param.{Param}
use Rattle.type_layout.specs.declared.definitions.Header.{Header}
use Rattle.type_layout.specs.declared.definitions.TypeDef.{TypeDef}
use Rattle.type_layout.specs.declared.texts.Place.{Place}
use Rattle.typed_tree.specs.Expressions.{Expression}
use Rattle.typing_rules.specs.Laws.{Lawful}
use Rattle.call_rules.specs.Casts.{cast}
use Rattle.call_rules.specs.Given.{given, called, performed}

pub record AreLawful : Type 0 where
  pub cast : (types : List TypeDef) (place : Place) (ty : TypeId) (es : List Expression) → Lawful (cast types place ty es)
  pub given : (types : List TypeDef) (place : Place) (checked : Bool) (params : List Param) (es : List Expression) → Lawful (given types place checked params es)
  pub called : (types : List TypeDef) (place : Place) (checked : Bool) (routine : RoutineId) (header : Header) (es : List Expression) → Lawful (called types place checked routine header es)
  pub performed : (types : List TypeDef) (place : Place) (checked : Bool) (routine : RoutineId) (header : Header) (es : List Expression) → Lawful (performed types place checked routine header es)
