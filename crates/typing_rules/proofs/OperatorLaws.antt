-- The judgements of operators are lawful.
use Rattle.std.proofs.Common.{Bool, false, ◌&&◌, List, Option, Decides}
use Rattle.type_layout.specs.declared.definitions.TypeId.{TypeId}
use Rattle.type_layout.specs.declared.definitions.TypeDef.{TypeDef}
use Rattle.type_layout.specs.declared.texts.Place.{Place}
use Rattle.typed_tree.specs.declared.expressions.UnaryOp.{UnaryOp}
use Rattle.typed_tree.specs.declared.expressions.UnaryOp.TheVariants.{Not}
use Rattle.typed_tree.specs.declared.expressions.BinaryOp.{BinaryOp}
use Rattle.typed_tree.specs.Expressions.{Expression, type_of}
use Rattle.typing_rules.specs.declared.faults.Rule.TheVariants as rules
use Rattle.typing_rules.specs.declared.sorts.Sort.{Sort}
use Rattle.typing_rules.specs.declared.plans.Operation.{Operation}
use Rattle.typing_rules.specs.declared.plans.Operation.TheVariants.{Sum, Product, Quotient, Shift, Logic, Equality, Inclusion, Order, Membership}
use Rattle.typing_rules.specs.Faults.{broken}
use Rattle.typing_rules.specs.Joins.{are_pointers}
use Rattle.typing_rules.specs.Sorts.{sort_of}
use Rattle.typing_rules.specs.Plans.{operation_of, Asks, AsksNot, IsInteger, is_integer, allows, allows_not, rule_of, plan_of, may_be_early}
use Rattle.typing_rules.specs.Operators.{planned, AsksOfPointers, allows_pointers, pointer_plan, pointers, plain, combined_by, combined, signed_node, signed, turned_node, negated}
use Rattle.typing_rules.specs.Laws.{Lawful}
use Rattle.typing_rules.proofs.JudgementLaws.{lawful_rule, lawful_either}
use Rattle.typing_rules.proofs.PlanLaws.{no, tells_integer, tells_allowed, tells_not}
use Rattle.typing_rules.proofs.JoinLaws.{tells_joined}

module _ (types : List TypeDef) (place : Place) where
  tells_pointers : (operation : Operation) (s t : Sort) (x y : Option TypeId) → Decides (allows_pointers types operation s t x y) (AsksOfPointers types operation s t x y)
  tells_pointers Equality s t x y = tells_joined types s t x y
  tells_pointers Sum s t x y = no
  tells_pointers Product s t x y = no
  tells_pointers Quotient s t x y = no
  tells_pointers Shift s t x y = no
  tells_pointers Logic s t x y = no
  tells_pointers Inclusion s t x y = no
  tells_pointers Order s t x y = no
  tells_pointers Membership s t x y = no

  lawful_pointers : (op : BinaryOp) (s t : Sort) (a b : Expression) → Lawful (pointers types place op s t a b)
  lawful_pointers op s t a b =
      let operation = operation_of op in
      lawful_rule (broken place (rule_of operation s t)) (allows_pointers types operation s t (type_of a) (type_of b)) (AsksOfPointers types operation s t (type_of a) (type_of b))
      (planned types op false (pointer_plan (type_of a) (type_of b)) a b) (tells_pointers operation s t (type_of a) (type_of b))

  lawful_plain : (op : BinaryOp) (early : Bool) (s t : Sort) (a b : Expression) → Lawful (plain types place op early s t a b)
  lawful_plain op early s t a b =
      let operation = operation_of op in
      lawful_rule (broken place (rule_of operation s t)) (allows operation s t) (Asks operation s t)
      (planned types op (early && may_be_early op s) (plan_of operation s t (type_of a) (type_of b)) a b) (tells_allowed operation s t)

  lawful_combined_by : (op : BinaryOp) (early : Bool) (s t : Sort) (a b : Expression) → Lawful (combined_by types place op early s t a b)
  lawful_combined_by op early s t a b =
      lawful_either (are_pointers s t) (pointers types place op s t a b) (plain types place op early s t a b) (lawful_pointers op s t a b) (lawful_plain op early s t a b)

  pub lawful_combined : (op : BinaryOp) (early : Bool) (a b : Expression) → Lawful (combined types place op early a b)
  unfolding combined
  lawful_combined op early a b = lawful_combined_by op early (sort_of types a) (sort_of types b) a b

  pub lawful_signed : (op : UnaryOp) (a : Expression) → Lawful (signed types place op a)
  unfolding signed
  lawful_signed op a = lawful_rule (broken place rules.Arithmetic) (is_integer (sort_of types a)) (IsInteger (sort_of types a)) (signed_node types op (sort_of types a) a) (tells_integer (sort_of types a))

  pub lawful_negated : (a : Expression) → Lawful (negated types place a)
  unfolding negated
  lawful_negated a = lawful_rule (broken place rules.Logic) (allows_not (sort_of types a)) (AsksNot (sort_of types a)) (turned_node types Not (sort_of types a) a) (tells_not (sort_of types a))
