-- What the judgements of standard procedures promise.
use Rattle.std.specs.Prelude.{ℕ, List}
use Rattle.type_layout.specs.declared.definitions.TypeDef.{TypeDef}
use Rattle.type_layout.specs.declared.texts.Place.{Place}
use Rattle.typed_tree.specs.Expressions.{Expression}
use Rattle.typed_tree.specs.Statements.{Written}
use Rattle.typing_rules.specs.Laws.{Lawful}
use Rattle.call_rules.specs.procedure_rules.Procedures.{standard_performed, told}

pub record AreLawful : Type 0 where
  pub standard_performed : (types : List TypeDef) (place : Place) (number : ℕ) (es : List Expression) → Lawful (standard_performed types place number es)
  pub told : (types : List TypeDef) (place : Place) (one to : Written) → Lawful (told types place one to)
