-- What the judgements of standard functions promise.
use Rattle.std.specs.Prelude.{ℕ, List}
use Rattle.type_layout.specs.declared.definitions.TypeDef.{TypeDef}
use Rattle.type_layout.specs.declared.texts.Place.{Place}
use Rattle.typed_tree.specs.Expressions.{Expression}
use Rattle.typing_rules.specs.Laws.{Lawful}
use Rattle.call_rules.specs.standard_rules.Standard.{standard}
use Rattle.call_rules.specs.standard_rules.Sizes.{variable_sized}

pub record AreLawful : Type 0 where
  pub standard : (types : List TypeDef) (place : Place) (number : ℕ) (es : List Expression) → Lawful (standard types place number es)
  pub variable_sized : (types : List TypeDef) (place : Place) (e : Expression) → Lawful (variable_sized types place e)
