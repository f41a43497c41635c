-- The judgements of methods are lawful.
use Rattle.std.proofs.Common.{ℕ, Bool, List, Option, Some, None}
use Rattle.type_layout.specs.declared.definitions.TypeId.{TypeId}
use Rattle.type_layout.specs.declared.definitions.RoutineId.{RoutineId}
use Rattle.type_layout.specs.declared.definitions.Method.{Method}
use Rattle.type_layout.specs.declared.definitions.TypeDef.{TypeDef}
use Rattle.type_layout.specs.declared.texts.Place.{Place}
use Rattle.typed_tree.specs.Expressions as tree
use Rattle.typed_tree.specs.Expressions.{Expression, Const, RoutineValue, Load, Unary, Binary, Convert, Range, SetOf, Call, CallVirtual, CallThrough, Std, Make}
use Rattle.typing_rules.specs.declared.faults.Rule.TheVariants as rules
use Rattle.typing_rules.specs.Faults.{broken}
use Rattle.scopes.specs.Environment.{Environment}
use Rattle.typing_rules.specs.Judgements.{makes, part, rule}
use Rattle.typing_rules.specs.Joins.{IsLine, is_line}
use Rattle.typing_rules.specs.Laws.{Lawful}
use Rattle.typing_rules.proofs.JudgementLaws.{lawful_makes, lawful_refuses, lawful_rule, lawful_either, lawful_part}
use Rattle.typing_rules.proofs.JoinLaws.{tells_line}
use Rattle.call_rules.specs.Given.{given}
use Rattle.call_rules.proofs.CallLaws.{lawful_given}
use Rattle.call_rules.specs.declared.method_rules.methods.Callee.TheVariants as callee
use Rattle.call_rules.specs.method_rules.Slots.{slot_of}
use Rattle.call_rules.specs.method_rules.Methods.{Bound, method_in, routine_in, routine_at, routine_named, callee_at, callee_of, bound_by, bound, inherited_by, inherited}
use Rattle.call_rules.specs.method_rules.Calls.{call_of, result_called, called_on, result_performed, performed_on}

module _ (g : Environment) (place : Place) where
  lawful_named : (routine : Option RoutineId) → Lawful (routine_at place routine)
  lawful_named None = lawful_refuses _
  lawful_named (Some routine) = lawful_makes _

  pub lawful_routine : (method : Method) → Lawful (routine_named g place method)
  lawful_routine method = lawful_named (routine_in g method.routine)

  lawful_slot : (slot : Option ℕ) → Lawful (callee_at place slot)
  lawful_slot None = lawful_refuses _
  lawful_slot (Some slot) = lawful_makes _

  pub lawful_callee : (class : TypeId) (name : List ℕ) (method : Method) → Lawful (callee_of g place class name method)
  lawful_callee class name method =
      lawful_either method.is_virtual (callee_at place (slot_of g.types.types class name)) (part (routine_named g place method) (λ routine. makes (callee.Routine routine)))
      (lawful_slot (slot_of g.types.types class name)) (lawful_part (routine_named g place method) _ (lawful_routine method) (λ routine. lawful_makes _))

  bound_at : (class : TypeId) (at : tree.Place) (name : List ℕ) (method : Option Method) → Lawful (bound_by g place class at name method)
  bound_at class at name None = lawful_refuses _
  bound_at class at name (Some method) = lawful_part (callee_of g place class name method) _ (lawful_callee class name method) (λ one. lawful_makes _)

  pub lawful_bound : (e : Expression) (name : List ℕ) → Lawful (bound g place e name)
  unfolding bound
  lawful_bound (Load ty at) name = bound_at ty at name (method_in g.types.types ty name)
  lawful_bound (Const ty value) name = lawful_refuses _
  lawful_bound (RoutineValue ty routine) name = lawful_refuses _
  lawful_bound (Unary ty op operand) name = lawful_refuses _
  lawful_bound (Binary ty op left right early) name = lawful_refuses _
  lawful_bound (Convert ty operand) name = lawful_refuses _
  lawful_bound (Range ty operand low high) name = lawful_refuses _
  lawful_bound (SetOf ty listed) name = lawful_refuses _
  lawful_bound (Call ty routine own args) name = lawful_refuses _
  lawful_bound (CallVirtual ty own number checked args) name = lawful_refuses _
  lawful_bound (CallThrough ty through args) name = lawful_refuses _
  lawful_bound (Std ty number args) name = lawful_refuses _
  lawful_bound (Make ty routine args) name = lawful_refuses _

  inherited_at : (at : tree.Place) (method : Option Method) → Lawful (inherited_by g place at method)
  inherited_at at None = lawful_refuses _
  inherited_at at (Some method) = lawful_part (routine_named g place method) _ (lawful_routine method) (λ routine. lawful_makes _)

  pub lawful_inherited : (here : Place) (class : TypeId) (at : tree.Place) (ancestor : TypeId) (name : List ℕ) → Lawful (inherited g here place class at ancestor name)
  unfolding inherited
  lawful_inherited here class at ancestor name =
      lawful_part (rule (broken here rules.Stands) (is_line g.types.types class ancestor) (IsLine g.types.types class ancestor) tt) (λ u. inherited_by g place at (method_in g.types.types ancestor name))
      (lawful_rule (broken here rules.Stands) (is_line g.types.types class ancestor) (IsLine g.types.types class ancestor) tt (tells_line g.types.types class ancestor))
      (λ u. inherited_at at (method_in g.types.types ancestor name))

module _ (types : List TypeDef) (place : Place) (checked : Bool) (one : Bound) where
  lawful_call : (ty : Option TypeId) (es : List Expression) → Lawful (call_of types place checked one ty es)
  lawful_call ty es = lawful_part (given types place checked one.header.params es) _ (lawful_given types place checked one.header.params es) (λ all. lawful_makes _)

  called_at : (result : Option TypeId) (es : List Expression) → Lawful (result_called types place checked one result es)
  called_at None es = lawful_refuses _
  called_at (Some ty) es = lawful_call (Some ty) es

  pub lawful_called : (es : List Expression) → Lawful (called_on types place checked one es)
  unfolding called_on
  lawful_called es = called_at one.header.result es

  performed_at : (result : Option TypeId) (es : List Expression) → Lawful (result_performed types place checked one result es)
  performed_at None es = lawful_call None es
  performed_at (Some ty) es = lawful_refuses _

  pub lawful_performed : (es : List Expression) → Lawful (performed_on types place checked one es)
  unfolding performed_on
  lawful_performed es = performed_at one.header.result es
