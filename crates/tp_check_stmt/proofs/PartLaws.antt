-- The parts of statements that no scope decides are judged lawfully.
use Rattle.std.proofs.Common.{Bool, List, [], ◌∷◌, Option, Some, None}
use Rattle.type_layout.specs.declared.definitions.TypeDef.{TypeDef}
use Rattle.type_layout.specs.declared.texts.Place.{Place}
use Rattle.pascal_grammar.specs.declared.lexeme.Position.{Position}
use Rattle.syntax_tree.specs.expression_tree.Trees.{Operand, Operands, no_operands, and_operand}
use Rattle.typed_tree.specs.Expressions as tree
use Rattle.typed_tree.specs.Expressions.{Expression}
use Rattle.typed_tree.specs.Statements.{Assign, Halt}
use Rattle.scopes.specs.declared.entries.Entry.{Entry}
use Rattle.scopes.specs.declared.entries.Entry.TheVariants as entry
use Rattle.typed_tree.specs.type_fits.Fits.{definition}
use Rattle.typing_rules.specs.declared.faults.Fault.{Fault}
use Rattle.typing_rules.specs.declared.faults.Rule.TheVariants as rules
use Rattle.typing_rules.specs.Faults.{broken}
use Rattle.typing_rules.specs.Judgements.{Judgement, makes, parts}
use Rattle.typing_rules.specs.Sorts.{sort_of_type, sort_of}
use Rattle.typing_rules.specs.Plans.{IsInteger, is_integer}
use Rattle.typing_rules.specs.Assignments.{assigned}
use Rattle.typing_rules.specs.Laws.{Lawful}
use Rattle.typing_rules.proofs.JudgementLaws.{lawful_makes, lawful_refuses, lawful_rule, lawful_either, lawful_part, lawful_parts}
use Rattle.typing_rules.proofs.PlanLaws.{tells_integer}
use Rattle.typing_rules.proofs.AssignmentLaws.{lawful_assigned}
use Rattle.call_rules.specs.Given.{performed}
use Rattle.call_rules.proofs.CallLaws.{lawful_performed}
use Rattle.tp_check_stmt.specs.Lists.{each}
use Rattle.tp_check_stmt.specs.Places.{Spot, spot_of, present}
use Rattle.tp_check_stmt.specs.Asked.{IsReadable, is_readable}
use Rattle.tp_check_stmt.specs.Assignments.{is_structured, copied, stored, assigned_to}
use Rattle.tp_check_stmt.specs.Standard.{taken_from, halted, left}
use Rattle.tp_check_stmt.specs.Calls.{run_node, performed_entry}
use Rattle.tp_check_stmt.specs.Typed.{three}
use Rattle.tp_check_stmt.proofs.TestLaws.{tells_readable}

pub lawful_present : {C : Type 0} (fault : Fault) (one : Option C) → Lawful (present fault one)
lawful_present fault None = lawful_refuses _
lawful_present fault (Some c) = lawful_makes _

pub lawful_each : {C : Type 0} (of : Operand → Judgement C) → ((one : Operand) → Lawful (of one)) → (all : Operands) → Lawful (each of all)
lawful_each of m no_operands = lawful_makes _
lawful_each of m (and_operand one rest) = lawful_parts (of one) (each of rest) _ (m one) (lawful_each of m rest) (λ x xs. lawful_makes _)

pub lawful_three : {A B C D : Type 0} (j : Judgement A) (k : Judgement B) (l : Judgement C) (f : A → B → C → D) → Lawful j → Lawful k → Lawful l → Lawful (three j k l f)
lawful_three {B = B} {C = C} j k l f m n o =
    let pair : B → C → B × C = λ b c. (b, c) in
    lawful_parts {B = B × C} j (parts k l (λ b c. makes (pair b c))) (λ a p. makes (f a p.0 p.1)) m
    (lawful_parts k l (λ b c. makes (pair b c)) n o (λ b c. lawful_makes (pair b c))) (λ a p. lawful_makes (f a p.0 p.1))

module _ (types : List TypeDef) where
  lawful_copied : (place : Place) (to : tree.Place) (from : Option Spot) → Lawful (copied place to from)
  lawful_copied place to None = lawful_refuses _
  lawful_copied place to (Some from) = lawful_makes _

  lawful_stored : (place : Place) (to : Spot) (e : Expression) → Lawful (stored types place to e)
  lawful_stored place to e =
      lawful_either (is_structured (definition types to.ty)) (copied place to.at (spot_of e)) (makes (Assign to.at e)) (lawful_copied place to.at (spot_of e)) (lawful_makes _)

  pub lawful_assigned_to : (here : Position) (to : Spot) (e : Expression) → Lawful (assigned_to types here to e)
  lawful_assigned_to here to e =
      lawful_part (assigned types here.place to.ty here.switches.r e) (λ v. stored types here.place to v) (lawful_assigned types here.place to.ty here.switches.r e)
      (λ v. lawful_stored here.place to v)

  -- ---- calls

  pub lawful_from : (place : Place) (checked : Bool) (one : Option Spot) → Lawful (taken_from types place checked one)
  lawful_from place checked None = lawful_refuses _
  lawful_from place checked (Some one) =
      lawful_rule (broken place rules.Read) (is_readable (sort_of_type types one.ty)) (IsReadable (sort_of_type types one.ty)) (record { at = one.at; ty = one.ty; checked = checked })
      (tells_readable (sort_of_type types one.ty))

  pub lawful_halted : (place : Place) (es : List Expression) → Lawful (halted types place es)
  lawful_halted place [] = lawful_makes _
  lawful_halted place (e ∷ []) = lawful_rule (broken place rules.Called) (is_integer (sort_of types e)) (IsInteger (sort_of types e)) (Halt e) (tells_integer (sort_of types e))
  lawful_halted place (e ∷ (f ∷ es)) = lawful_refuses _

  pub lawful_left : (place : Place) (es : List Expression) → Lawful (left place es)
  lawful_left place [] = lawful_makes _
  lawful_left place (e ∷ es) = lawful_refuses _

  pub lawful_run_node : (j : Judgement Expression) → Lawful j → Lawful (run_node j)
  lawful_run_node j m = lawful_part j _ m (λ e. lawful_makes _)

  pub lawful_entry : (here : Position) (one : Entry) (es : List Expression) → Lawful (performed_entry types here one es)
  lawful_entry here (entry.Const ty v) es = lawful_refuses _
  lawful_entry here (entry.Ty ty) es = lawful_refuses _
  lawful_entry here (entry.Var unit level n ty) es = lawful_refuses _
  lawful_entry here (entry.Code routine level header far) es =
      lawful_run_node (performed types here.place here.switches.r routine header es) (lawful_performed types here.place here.switches.r routine header es)
  lawful_entry here (entry.Std n) es = lawful_refuses _
