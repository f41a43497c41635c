-- Statements are read back.
use Rattle.std.proofs.Common.{◌≡◌, Bool, true, false, List, [], ◌∷◌, map, refl, sym, subst, ◌∙◌}
use Rattle.tp_check_decl.specs.pascal_grammar.Productions as p
use Rattle.tp_check_decl.specs.syntax_tree.declared.expression.Argument.{Argument}
use Rattle.tp_check_decl.specs.syntax_tree.declared.statement.CompoundStatement.{CompoundStatement}
use Rattle.tp_check_decl.specs.syntax_tree.declared.statement.Statement.{Statement, Row_of-Statement, end_of-Statement, more_of-Statement, Row_of-CaseArm, end_of-CaseArm, more_of-CaseArm}
use Rattle.tp_check_decl.specs.syntax_tree.declared.statement.Statement.TheVariants as s
use Rattle.tp_check_decl.specs.syntax_tree.declared.statement.ElsePart.{ElsePart}
use Rattle.tp_check_decl.specs.syntax_tree.declared.statement.ElsePart.TheVariants as e
use Rattle.tp_check_decl.specs.syntax_tree.declared.statement.CaseElse.{CaseElse}
use Rattle.tp_check_decl.specs.syntax_tree.declared.statement.CaseElse.TheVariants as c
use Rattle.tp_check_decl.specs.syntax_tree.declared.statement.WithRest.{WithRest}
use Rattle.tp_check_decl.specs.syntax_tree.declared.statement.WithRest.TheVariants as w
use Rattle.tp_check_decl.specs.syntax_tree.declared.statement.CaseLabel.{CaseLabel}
use Rattle.tp_check_decl.specs.syntax_tree.declared.statement.CaseLabel.TheVariants as l
use Rattle.tp_check_decl.specs.syntax_tree.declared.statement.CaseArm.TheVariants as a
use Rattle.tp_check_decl.specs.syntax_tree.Expressions.{Parsed, of}
use Rattle.tp_check_decl.specs.syntax_tree.Statements.{next_arguments, arguments_of, of_label, next_labels, arm_of, of_statement, of_statements, more_statements, of_else, of_case_else, of_with, first_arm, other_arms, more_arms, next_statements, statements_of, compound_of}
use Rattle.tp_check_decl.specs.syntax_tree.expression_tree.Trees.{and_operand, no_operands, view_arguments}
use Rattle.tp_check_decl.specs.syntax_tree.statement_tree.Trees.{Branches, alone, from_to, and_task, and_branch, view_label, view_statement, view_statement_row, view_else, view_case_else, view_with, view_arm_row, view_statements}
use Rattle.tp_check_decl.specs.syntax_tree.statement_tree.Trees as t
use Rattle.tp_check_decl.specs.ll1_grammar.whole_trees.Whole.{IsWhole}
use Rattle.address_independence.specs.yields.Reading.{meant}
use Rattle.address_independence.specs.yields.Trees.{body_in}
use Rattle.address_independence.proofs.yields.Expressions.{no_terms, no_selectors, begins_read, expression_read, simple_read, selectors_read, argument_read}

-- ---- arguments and labels

next_arguments_read : (all : List Argument) → IsWhole (next_arguments all (of p.no_more_arguments [])) → (meant (next_arguments all (of p.no_more_arguments []))).operands ≡ view_arguments all
next_arguments_read [] h = refl
next_arguments_read (one ∷ all) h = λ i. and_operand (argument_read one h.1.0 i) (next_arguments_read all h.1.1.0 i)

arguments_read : (all : List Argument) → IsWhole (arguments_of all (of p.no_more_arguments [])) → (meant (arguments_of all (of p.no_more_arguments []))).operands ≡ view_arguments all
arguments_read [] h = absurd h.1.0
arguments_read (one ∷ all) h = λ i. and_operand (argument_read one h.1.0 i) (next_arguments_read all h.1.1.0 i)

label_read : (one : CaseLabel) → IsWhole (of_label one) → (meant (of_label one)).label ≡ view_label one
label_read (l.Single x) h = λ i. alone (simple_read x no_terms h.0 i)
label_read (l.Range x y) h = λ i. from_to (simple_read x no_terms h.0 i) (simple_read y no_terms h.1.0.1.0 i)

labels_read : (all : List CaseLabel) → IsWhole (next_labels all (of p.no_labels [])) → (meant (next_labels all (of p.no_labels []))).labels ≡ map view_label all
labels_read [] h = refl
labels_read (one ∷ all) h = λ i. label_read one h.1.0 i ∷ labels_read all h.1.1.0 i

arm_read : (all : List CaseLabel) (body : Parsed) (rest : Branches) → IsWhole (arm_of all body) → (meant (arm_of all body)).arm rest ≡ and_branch (map view_label all) (meant body).task rest
arm_read [] body rest h = absurd h.0
arm_read (one ∷ all) body rest h = λ i. and_branch (label_read one h.0 i ∷ labels_read all h.1.0 i) (meant body).task rest

-- ---- statements

mutual
  pub statement_read : (one : Statement) → IsWhole (of_statement one) → (meant (of_statement one)).task ≡ view_statement one
  statement_read s.Empty h = refl
  statement_read (s.Assignment d x) h = λ i. t.assignment (begins_read d.value i) (selectors_read d.value no_selectors h.1.0 i) (expression_read x h.1.1.0.1.0 i)
  statement_read (s.BareCall d) h = λ i. t.run (begins_read d.value i) (selectors_read d.value no_selectors h.1.0 i) no_operands
  statement_read (s.ProcedureCall d all) h = λ i. t.run (begins_read d.value i) (selectors_read d.value no_selectors h.1.0 i) (arguments_read all.items h.1.1.0.0 i)
  statement_read (s.Compound' here shape all) h = λ i. t.compound (statements_read all h.0.1.0 i)
  statement_read (s.If' here x q one other) h = λ i. t.choice here (expression_read x h.1.0 i) (statement_read one h.1.1.1.0 i) (else_read other h.1.1.1.1.0 i)
  statement_read (s.Case' here x shape arms b other) h = λ i. t.selection here (expression_read x h.1.0 i) (arms_read arms b h.1.1.1.0 h.1.1.1.1.0 i) (case_else_read other h.1.1.1.1.1.0 i)
  statement_read (s.While' here x q one) h = λ i. t.while_loop here (expression_read x h.1.0 i) (statement_read one h.1.1.1.0 i)
  statement_read (s.Repeat' here shape all x) h = λ i. t.repeat_loop here (statements_read all h.1.0 i) (expression_read x h.1.1.1.0 i)
  statement_read (s.For' here name x way y q one) h = λ i. t.for_loop here name.position name.name (expression_read x h.1.1.1.0 i) way.direction (expression_read y h.1.1.1.1.1.0 i) (statement_read one h.1.1.1.1.1.1.1.0 i)
  statement_read (s.With' here d q one) h = λ i. t.opened (begins_read d.value i) (selectors_read d.value no_selectors h.1.0.1.0 i) (with_read one h.1.1.0 i)

  statements_read : {n : _} (all : Row_of-Statement n) → IsWhole (of_statements all) → (meant (of_statements all)).tasks ≡ view_statement_row all
  statements_read end_of-Statement h = absurd h
  statements_read (more_of-Statement one all) h = λ i. and_task (statement_read one h.0 i) (more_read all h.1.0 i)

  more_read : {n : _} (all : Row_of-Statement n) → IsWhole (more_statements all) → (meant (more_statements all)).tasks ≡ view_statement_row all
  more_read end_of-Statement h = refl
  more_read (more_of-Statement one all) h = λ i. and_task (statement_read one h.1.0 i) (more_read all h.1.1.0 i)

  else_read : (one : ElsePart) → IsWhole (of_else one) → (meant (of_else one)).task ≡ view_else one
  else_read e.Absent h = refl
  else_read (e.Present' q one) h = statement_read one h.1.0

  case_else_read : (one : CaseElse) → IsWhole (of_case_else one) → (meant (of_case_else one)).tasks ≡ view_case_else one
  case_else_read c.Absent h = refl
  case_else_read (c.Present' shape all) h = statements_read all h.1.0

  with_read : (one : WithRest) → IsWhole (of_with one) → (meant (of_with one)).task ≡ view_with one
  with_read (w.Body' q one) h = statement_read one h.1.0
  with_read (w.Next' d q one) h = λ i. t.opened (begins_read d.value i) (selectors_read d.value no_selectors h.1.0.1.0 i) (with_read one h.1.1.0 i)

  arms_read : {n : _} (all : Row_of-CaseArm n) (b : Bool) → IsWhole (first_arm all) → IsWhole (other_arms all b) → (meant (first_arm all)).arm (meant (other_arms all b)).branches ≡ view_arm_row all
  arms_read end_of-CaseArm b h k = absurd h
  arms_read (more_of-CaseArm (a.Arm labels one) all) b h k =
      arm_read labels.items (of_statement one) (meant (more_arms all b)).branches h
      ∙ λ i. and_branch (map view_label labels.items) (statement_read one h.1.1.1.0 i) (more_arms_read all b k i)

  more_arms_read : {n : _} (all : Row_of-CaseArm n) (b : Bool) → IsWhole (more_arms all b) → (meant (more_arms all b)).branches ≡ view_arm_row all
  more_arms_read end_of-CaseArm false h = refl
  more_arms_read end_of-CaseArm true h = refl
  more_arms_read (more_of-CaseArm (a.Arm labels one) all) b h =
      arm_read labels.items (of_statement one) (meant (more_arms all b)).branches h.1.0.0
      ∙ λ i. and_branch (map view_label labels.items) (statement_read one h.1.0.0.1.1.1.0 i) (more_arms_read all b h.1.0.1.0 i)

-- ---- the same over lists

next_read : (all : List Statement) → IsWhole (next_statements all (of p.no_statements [])) → (meant (next_statements all (of p.no_statements []))).tasks ≡ view_statements all
next_read [] h = refl
next_read (one ∷ all) h = λ i. and_task (statement_read one h.1.0 i) (next_read all h.1.1.0 i)

list_read : (all : List Statement) → IsWhole (statements_of all (of p.no_statements [])) → (meant (statements_of all (of p.no_statements []))).tasks ≡ view_statements all
list_read [] h = absurd h
list_read (one ∷ all) h = λ i. and_task (statement_read one h.0 i) (next_read all h.1.0 i)

pub body_read : (one : CompoundStatement) → IsWhole (compound_of one) → (meant (compound_of one)).body ≡ body_in one
body_read one h = λ i. record { position = one.position; tasks = list_read one.statements.items h.1.0 i }

-- ---- what is spelled alike has the same view

pub statement_alike : (x y : Statement) → IsWhole (of_statement x) → of_statement x ≡ of_statement y → view_statement x ≡ view_statement y
statement_alike x y h e = sym (statement_read x h) ∙ (λ i. (meant (e i)).task) ∙ statement_read y (subst (λ (z : Parsed). IsWhole z) e h)
