-- Operators: the judgement of each, from its operands' nodes.
use Rattle.std.specs.Prelude.{ℤ, neg_ℤ, Bool, false, ◌&&◌, cond, List, Option}
use Rattle.std.specs.Ordering.{int_eq}
use Rattle.type_layout.specs.declared.definitions.TypeId.{TypeId}
use Rattle.type_layout.specs.declared.definitions.TypeDef.{TypeDef}
use Rattle.type_layout.specs.declared.definitions.Host.TheVariants as host
use Rattle.type_layout.specs.declared.texts.Place.{Place}
use Rattle.type_layout.specs.Storage.{least_of}
use Rattle.typed_tree.specs.declared.expressions.Value.TheVariants as value
use Rattle.typed_tree.specs.declared.expressions.UnaryOp.{UnaryOp}
use Rattle.typed_tree.specs.declared.expressions.UnaryOp.TheVariants.{Minus, Not}
use Rattle.typed_tree.specs.declared.expressions.BinaryOp.{BinaryOp}
use Rattle.typed_tree.specs.Expressions.{Expression, Const, Unary, Binary, type_of}
use Rattle.typing_rules.specs.declared.faults.Rule.TheVariants as rules
use Rattle.typing_rules.specs.declared.sorts.Sort.{Sort}
use Rattle.typing_rules.specs.declared.plans.Operation.{Operation}
use Rattle.typing_rules.specs.declared.plans.Operation.TheVariants.{Equality}
use Rattle.typing_rules.specs.declared.plans.Plan.{Plan}
use Rattle.typing_rules.specs.Faults.{broken}
use Rattle.typing_rules.specs.Judgements.{Judgement, rule, either}
use Rattle.typing_rules.specs.Joins.{are_pointers, ArePointersJoined, are_pointers_joined}
use Rattle.typing_rules.specs.Sorts.{boolean, number_type, sort_of}
use Rattle.typing_rules.specs.Wanted.{wanted, wanted_in}
use Rattle.typing_rules.specs.Plans.{operation_of, Asks, AsksNot, IsInteger, is_integer, allows, allows_not, rule_of, plan_of, turned, may_be_early}

-- ---- two operands

abbrev pub planned : List TypeDef → BinaryOp → Bool → Plan → Expression → Expression → Expression
planned types op early plan a b = Binary plan.ty op (wanted_in types plan.left a) (wanted_in types plan.right b) early

-- pointers are compared for equality alone, where one of them could be assigned to the other
abbrev pub AsksOfPointers : List TypeDef → Operation → Sort → Sort → Option TypeId → Option TypeId → Type 0
AsksOfPointers types Equality s t x y = ArePointersJoined types s t x y
AsksOfPointers types _ s t x y = ⊥

abbrev pub allows_pointers : List TypeDef → Operation → Sort → Sort → Option TypeId → Option TypeId → Bool
allows_pointers types Equality s t x y = are_pointers_joined types s t x y
allows_pointers types _ s t x y = false

-- each in the type of the other, which nil takes
abbrev pub pointer_plan : Option TypeId → Option TypeId → Plan
pointer_plan x y = record { left = y; right = x; ty = boolean }

abbrev pub pointers : List TypeDef → Place → BinaryOp → Sort → Sort → Expression → Expression → Judgement Expression
pointers types place op s t a b =
    rule (broken place (rule_of (operation_of op) s t)) (allows_pointers types (operation_of op) s t (type_of a) (type_of b)) (AsksOfPointers types (operation_of op) s t (type_of a) (type_of b))
    (planned types op false (pointer_plan (type_of a) (type_of b)) a b)

-- other operands by what they are
abbrev pub plain : List TypeDef → Place → BinaryOp → Bool → Sort → Sort → Expression → Expression → Judgement Expression
plain types place op early s t a b =
    rule (broken place (rule_of (operation_of op) s t)) (allows (operation_of op) s t) (Asks (operation_of op) s t)
    (planned types op (early && may_be_early op s) (plan_of (operation_of op) s t (type_of a) (type_of b)) a b)

abbrev pub combined_by : List TypeDef → Place → BinaryOp → Bool → Sort → Sort → Expression → Expression → Judgement Expression
combined_by types place op early s t a b = either (are_pointers s t) (pointers types place op s t a b) (plain types place op early s t a b)

-- An operator at a place. With `early`, the right side is left out where the left one decides.
unfoldable pub combined : List TypeDef → Place → BinaryOp → Bool → Expression → Expression → Judgement Expression
combined types place op early a b = combined_by types place op early (sort_of types a) (sort_of types b) a b

-- ---- one operand

-- the negative, which wraps on 32 bits
abbrev pub negative : ℤ → ℤ
negative n = cond (int_eq n (least_of host.LongInt)) n (neg_ℤ n)

abbrev pub sign_value : UnaryOp → ℤ → ℤ
sign_value Minus n = negative n
sign_value op n = n

abbrev pub turned_node : List TypeDef → UnaryOp → Sort → Expression → Expression
turned_node types op s a = Unary (turned s) op (wanted types (turned s) a)

-- a sign before a constant makes a constant
abbrev pub signed_node : List TypeDef → UnaryOp → Sort → Expression → Expression
signed_node types op s (Const ty (value.Number n)) = Const (number_type (sign_value op n)) (value.Number (sign_value op n))
signed_node types op s a = turned_node types op s a

-- a sign before an operand
unfoldable pub signed : List TypeDef → Place → UnaryOp → Expression → Judgement Expression
signed types place op a =
    rule (broken place rules.Arithmetic) (is_integer (sort_of types a)) (IsInteger (sort_of types a)) (signed_node types op (sort_of types a) a)

-- `not`
unfoldable pub negated : List TypeDef → Place → Expression → Judgement Expression
negated types place a =
    rule (broken place rules.Logic) (allows_not (sort_of types a)) (AsksNot (sort_of types a)) (turned_node types Not (sort_of types a) a)
