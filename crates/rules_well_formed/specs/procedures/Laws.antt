-- Calls of standard procedures give typed nodes, where their arguments are typed.
use Rattle.std.specs.Prelude.{ℕ, List, Option, Some, None}
use Rattle.well_formed.specs.type_layout.declared.texts.Place.{Place}
use Rattle.well_formed.specs.typed_tree.Expressions.{Expression}
use Rattle.well_formed.specs.typed_tree.Statements.{Written}
use Rattle.well_formed.specs.Scopes.{Scope}
use Rattle.well_formed.specs.Typed.{IsTyped}
use Rattle.call_rules.specs.procedure_rules.Procedures.{standard_performed, told}
use Rattle.rules_well_formed.specs.nodes.Tables.{IsSound}
use Rattle.rules_well_formed.specs.nodes.Laws.{IsOperand}
use Rattle.rules_well_formed.specs.calls.Laws.{AreOperands}

abbrev pub IsWidthOperand : Scope → Option Expression → Type 0
IsWidthOperand s None = Unit {0}
IsWidthOperand s (Some width) = IsOperand s width

-- an argument with its width
pub record HasOperands (s : Scope) (one : Written) : Type 0 where
  pub value : IsOperand s one.value
  pub width : IsWidthOperand s one.width

pub record GiveTyped (s : Scope) : Type 0 where
  pub performed : (place : Place) (number : ℕ) (es : List Expression) (e : Expression) → AreOperands s es → (standard_performed s.types place number es).holds e → IsTyped s e
  -- Str
  pub told : (place : Place) (one to : Written) (e : Expression) → HasOperands s one → HasOperands s to → (told s.types place one to).holds e → IsTyped s e

abbrev pub ProcedureLaws : Type 0
ProcedureLaws = (s : Scope) → IsSound s.types → GiveTyped s
