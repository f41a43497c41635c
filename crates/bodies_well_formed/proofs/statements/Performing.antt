-- What stands as a statement by itself is a call.
use Rattle.std.proofs.Common.{◌≡◌, ℕ, Bool, List, Option, Some, None, length, sym, subst}
use Rattle.tp_check_stmt.specs.type_layout.declared.definitions.TypeId.{TypeId}
use Rattle.tp_check_stmt.specs.type_layout.declared.definitions.RoutineId.{RoutineId}
use Rattle.tp_check_stmt.specs.type_layout.declared.definitions.Header.{Header}
use Rattle.tp_check_stmt.specs.type_layout.declared.definitions.TypeDef.{TypeDef}
use Rattle.tp_check_stmt.specs.type_layout.declared.texts.Place.{Place}
use Rattle.tp_check_stmt.specs.typed_tree.Expressions as tree
use Rattle.tp_check_stmt.specs.typed_tree.Expressions.{Expression, Arguments}
use Rattle.tp_check_stmt.specs.typed_tree.Statements.{Written}
use Rattle.rules_well_formed.specs.well_formed.WellFormed.{IsCall}
use Rattle.tp_check_stmt.specs.call_rules.Given.{result_performed, performed}
use Rattle.tp_check_stmt.specs.call_rules.declared.method_rules.methods.Callee.{Callee}
use Rattle.tp_check_stmt.specs.call_rules.declared.method_rules.methods.Callee.TheVariants as callee
use Rattle.tp_check_stmt.specs.call_rules.method_rules.Methods.{Bound}
use Rattle.tp_check_stmt.specs.call_rules.method_rules.Calls as methods
use Rattle.tp_check_stmt.specs.call_rules.method_rules.Calls.{node_of, performed_on}
use Rattle.tp_check_stmt.specs.call_rules.procedural_rules.Through as held
use Rattle.tp_check_stmt.specs.call_rules.procedural_rules.Through.{Held, performed_through}
use Rattle.tp_check_stmt.specs.call_rules.declared.procedure_rules.rows.Slots.{Slots}
use Rattle.tp_check_stmt.specs.call_rules.procedure_rules.Rows.{slots_of}
use Rattle.tp_check_stmt.specs.call_rules.procedure_rules.Procedures.{performed_by, standard_performed, told_by, told}

module _ (types : List TypeDef) (place : Place) where
  is_call : (e other : Expression) → e ≡ other → IsCall other → IsCall e
  is_call e other is h = subst (λ (x : Expression). IsCall x) (sym is) h

  routine_by : (checked : Bool) (routine : RoutineId) (header : Header) (o : Option TypeId) (es : List Expression) (e : Expression) → (result_performed types place checked routine header o es).holds e → IsCall e
  routine_by checked routine header None es e h = is_call e _ h.made tt
  routine_by checked routine header (Some ty) es e h = absurd h

  pub routine_call : (checked : Bool) (routine : RoutineId) (header : Header) (es : List Expression) (e : Expression) → (performed types place checked routine header es).holds e → IsCall e
  unfolding performed
  routine_call checked routine header es e h = routine_by checked routine header header.result es e h

  node_call : (one : Callee) (own : tree.Place) (ty : Option TypeId) (checked : Bool) (args : Arguments) → IsCall (node_of one own ty checked args)
  node_call (callee.Routine routine) own ty checked args = tt
  node_call (callee.Slot slot) own ty checked args = tt

  method_by : (checked : Bool) (one : Bound) (o : Option TypeId) (es : List Expression) (e : Expression) → (methods.result_performed types place checked one o es).holds e → IsCall e
  method_by checked one None es e h = is_call e _ h.made (node_call one.callee one.own None checked _)
  method_by checked one (Some ty) es e h = absurd h

  pub method_call : (checked : Bool) (one : Bound) (es : List Expression) (e : Expression) → (performed_on types place checked one es).holds e → IsCall e
  unfolding performed_on
  method_call checked one es e h = method_by checked one one.header.result es e h

  held_by : (checked : Bool) (one : Held) (o : Option TypeId) (es : List Expression) (e : Expression) → (held.result_performed types place checked one o es).holds e → IsCall e
  held_by checked one None es e h = is_call e _ h.made tt
  held_by checked one (Some ty) es e h = absurd h

  pub held_call : (checked : Bool) (one : Held) (es : List Expression) (e : Expression) → (performed_through types place checked one es).holds e → IsCall e
  unfolding performed_through
  held_call checked one es e h = held_by checked one one.header.result es e h

  standard_by : (number : ℕ) (o : Option Slots) (es : List Expression) (e : Expression) → (performed_by types place number o es).holds e → IsCall e
  standard_by number None es e h = absurd h
  standard_by number (Some slots) es e h = is_call e _ h.made tt

  pub standard_call : (number : ℕ) (es : List Expression) (e : Expression) → (standard_performed types place number es).holds e → IsCall e
  unfolding standard_performed
  standard_call number es e h = standard_by number (slots_of number (length es)) es e h

  told_at : (one : Written) (to : Expression) (width : Option Expression) (e : Expression) → (told_by types place one to width).holds e → IsCall e
  told_at one to None e h = is_call e _ h.made tt
  told_at one to (Some width) e h = absurd h

  pub told_call : (one to : Written) (e : Expression) → (told types place one to).holds e → IsCall e
  unfolding told
  told_call one to e h = told_at one to.value to.width e h
