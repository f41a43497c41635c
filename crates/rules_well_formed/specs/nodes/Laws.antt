-- Each rule that gives a node gives a well-formed one, where its operands are.
use Rattle.std.specs.Prelude.{◌≡◌, ◌⊎◌, ℕ, ℤ, Bool, IsTrue, List}
use Rattle.well_formed.specs.type_layout.declared.texts.Place.{Place}
use Rattle.well_formed.specs.type_layout.declared.definitions.TypeId.{TypeId}
use Rattle.well_formed.specs.type_layout.declared.definitions.Host.TheVariants as host
use Rattle.well_formed.specs.type_layout.Storage.{holds}
use Rattle.well_formed.specs.typed_tree.declared.expressions.UnaryOp.{UnaryOp}
use Rattle.well_formed.specs.typed_tree.declared.expressions.BinaryOp.{BinaryOp}
use Rattle.well_formed.specs.typed_tree.declared.expressions.Value.TheVariants as value
use Rattle.well_formed.specs.typed_tree.Expressions.{Expression, Const}
use Rattle.well_formed.specs.typed_tree.type_fits.Fits.{definition, IsValue}
use Rattle.well_formed.specs.Scopes.{Scope}
use Rattle.well_formed.specs.Typed.{IsTyped, Takes}
use Rattle.call_rules.specs.typing_rules.Sorts.{number_type}
use Rattle.call_rules.specs.typing_rules.Wanted.{nil, constant}
use Rattle.call_rules.specs.typing_rules.Operators.{combined, signed, negated}
use Rattle.call_rules.specs.typing_rules.Assignments.{assigned}
use Rattle.call_rules.specs.typing_rules.Selectors.{selected, indexed, followed}
use Rattle.rules_well_formed.specs.nodes.Tables.{IsInTable, IsSound}

-- What a rule is given: a typed expression, or nil, which has no type until one is wanted.
abbrev pub IsOperand : Scope → Expression → Type 0
IsOperand s e = IsTyped s e ⊎ (e ≡ nil)

-- what holds in a scope
pub record GiveTyped (s : Scope) : Type 0 where
  pub numbers : (n : ℤ) → IsTrue (holds host.LongInt n n) → IsTyped s (Const (number_type n) (value.Number n))
  pub constants : (ty : TypeId) (n : ℤ) → IsValue s.types (value.Number n) (definition s.types ty) → IsTyped s (constant s.types ty n)
  pub combined : (place : Place) (op : BinaryOp) (early : Bool) (a b e : Expression) → IsOperand s a → IsOperand s b → (combined s.types place op early a b).holds e → IsTyped s e
  pub signed : (place : Place) (op : UnaryOp) (a e : Expression) → IsOperand s a → (signed s.types place op a).holds e → IsTyped s e
  pub negated : (place : Place) (a e : Expression) → IsOperand s a → (negated s.types place a).holds e → IsTyped s e
  pub assigned : (place : Place) (ty : TypeId) (checked : Bool) (a e : Expression) → IsInTable s.types ty → IsOperand s a → (assigned s.types place ty checked a).holds e
      → IsTyped s e × Takes s.types ty e
  pub selected : (place : Place) (name : List ℕ) (a e : Expression) → IsOperand s a → (selected s.types place a name).holds e → IsTyped s e
  pub indexed : (place : Place) (checked : Bool) (a i e : Expression) → IsOperand s a → IsOperand s i → (indexed s.types place checked a i).holds e → IsTyped s e
  pub followed : (place : Place) (a e : Expression) → IsOperand s a → (followed s.types place a).holds e → IsTyped s e

abbrev pub NodeLaws : Type 0
NodeLaws = (s : Scope) → IsSound s.types → GiveTyped s
