-- The literals in spelled statements are literals.
use Rattle.std.proofs.Common.{Bool, List, [], ◌∷◌}
use Rattle.source_graph.specs.pascal_grammar.Productions as p
use Rattle.source_graph.specs.syntax_tree.declared.expression.Argument.{Argument}
use Rattle.source_graph.specs.syntax_tree.declared.expression.Designator.{Designator}
use Rattle.source_graph.specs.syntax_tree.declared.statement.Statement.{Statement, Row_of-Statement, end_of-Statement, more_of-Statement, Row_of-CaseArm, end_of-CaseArm, more_of-CaseArm}
use Rattle.source_graph.specs.syntax_tree.declared.statement.Statement.TheVariants as s
use Rattle.source_graph.specs.syntax_tree.declared.statement.ElsePart.{ElsePart}
use Rattle.source_graph.specs.syntax_tree.declared.statement.ElsePart.TheVariants as e
use Rattle.source_graph.specs.syntax_tree.declared.statement.CaseElse.{CaseElse}
use Rattle.source_graph.specs.syntax_tree.declared.statement.CaseElse.TheVariants as c
use Rattle.source_graph.specs.syntax_tree.declared.statement.WithRest.{WithRest}
use Rattle.source_graph.specs.syntax_tree.declared.statement.WithRest.TheVariants as w
use Rattle.source_graph.specs.syntax_tree.declared.statement.CaseArm.TheVariants as a
use Rattle.source_graph.specs.syntax_tree.Expressions.{of, selectors}
use Rattle.source_graph.specs.syntax_tree.Statements.{next_arguments, arguments_of, of_statement, of_statements, more_statements, of_else, of_case_else, of_with, first_arm, other_arms, more_arms, next_statements, statements_of}
use Rattle.source_graph.specs.syntax_tree.expression_tree.Trees.{view_designator, view_arguments}
use Rattle.source_graph.specs.syntax_tree.statement_tree.Trees.{view_statement, view_statement_row, view_else, view_case_else, view_with, view_arm_row, view_statements}
use Rattle.units_well_formed.specs.bodies_well_formed.expressions.Literals.{AreLiterals, AreInOperands}
use Rattle.units_well_formed.specs.units.Below.{HasLiterals, HaveLiterals, HaveInBranches}
use Rattle.token_provenance.proofs.sources.Full.{IsFull}
use Rattle.token_provenance.proofs.sources.Expressions.{expression_written, selectors_written, argument_written}

designator_written : (one : Designator) → IsFull (selectors one (of p.no_selectors [])) → AreLiterals (view_designator one)
designator_written one h = (selectors_written one (of p.no_selectors []) h).0

next_arguments_written : (all : List Argument) → IsFull (next_arguments all (of p.no_more_arguments [])) → AreInOperands (view_arguments all)
next_arguments_written [] h = tt
next_arguments_written (one ∷ all) h = (argument_written one h.2.0, next_arguments_written all h.2.2.0)

arguments_written : (all : List Argument) → IsFull (arguments_of all (of p.no_more_arguments [])) → AreInOperands (view_arguments all)
arguments_written [] h = tt
arguments_written (one ∷ all) h = (argument_written one h.2.0, next_arguments_written all h.2.2.0)

mutual
  pub statement_written : (one : Statement) → IsFull (of_statement one) → HasLiterals (view_statement one)
  statement_written s.Empty h = tt
  statement_written (s.Assignment d x) h = (designator_written d.value h.2.0, expression_written x h.2.2.0.2.0)
  statement_written (s.BareCall d) h = (designator_written d.value h.2.0, tt)
  statement_written (s.ProcedureCall d all) h = (designator_written d.value h.2.0, arguments_written all.items h.2.2.0.0)
  statement_written (s.Compound' here shape all) h = statements_written all h.0.2.0
  statement_written (s.If' here x q one other) h = (expression_written x h.2.0, statement_written one h.2.2.2.0, else_written other h.2.2.2.2.0)
  statement_written (s.Case' here x shape arms b other) h = (expression_written x h.2.0, arms_written arms b h.2.2.2.0 h.2.2.2.2.0, case_else_written other h.2.2.2.2.2.0)
  statement_written (s.While' here x q one) h = (expression_written x h.2.0, statement_written one h.2.2.2.0)
  statement_written (s.Repeat' here shape all x) h = (statements_written all h.2.0, expression_written x h.2.2.2.0)
  statement_written (s.For' here name x way y q one) h = (expression_written x h.2.2.2.0, expression_written y h.2.2.2.2.2.0, statement_written one h.2.2.2.2.2.2.2.0)
  statement_written (s.With' here d q one) h = (designator_written d.value h.2.0.2.0, with_written one h.2.2.0)

  statements_written : {n : _} (all : Row_of-Statement n) → IsFull (of_statements all) → HaveLiterals (view_statement_row all)
  statements_written end_of-Statement h = tt
  statements_written (more_of-Statement one all) h = (statement_written one h.0, more_written all h.2.0)

  more_written : {n : _} (all : Row_of-Statement n) → IsFull (more_statements all) → HaveLiterals (view_statement_row all)
  more_written end_of-Statement h = tt
  more_written (more_of-Statement one all) h = (statement_written one h.2.0, more_written all h.2.2.0)

  else_written : (one : ElsePart) → IsFull (of_else one) → HasLiterals (view_else one)
  else_written e.Absent h = tt
  else_written (e.Present' q one) h = statement_written one h.2.0

  case_else_written : (one : CaseElse) → IsFull (of_case_else one) → HaveLiterals (view_case_else one)
  case_else_written c.Absent h = tt
  case_else_written (c.Present' shape all) h = statements_written all h.2.0

  with_written : (one : WithRest) → IsFull (of_with one) → HasLiterals (view_with one)
  with_written (w.Body' q one) h = statement_written one h.2.0
  with_written (w.Next' d q one) h = (designator_written d.value h.2.0.2.0, with_written one h.2.2.0)

  arms_written : {n : _} (all : Row_of-CaseArm n) (b : Bool) → IsFull (first_arm all) → IsFull (other_arms all b) → HaveInBranches (view_arm_row all)
  arms_written end_of-CaseArm b h k = tt
  arms_written (more_of-CaseArm (a.Arm labels one) all) b h k = (statement_written one h.2.2.2.0, more_arms_written all b k)

  more_arms_written : {n : _} (all : Row_of-CaseArm n) (b : Bool) → IsFull (more_arms all b) → HaveInBranches (view_arm_row all)
  more_arms_written end_of-CaseArm b h = tt
  more_arms_written (more_of-CaseArm (a.Arm labels one) all) b h = (statement_written one h.2.0.0.2.2.2.0, more_arms_written all b h.2.0.2.0)

-- ---- the same over lists

next_written : (all : List Statement) → IsFull (next_statements all (of p.no_statements [])) → HaveLiterals (view_statements all)
next_written [] h = tt
next_written (one ∷ all) h = (statement_written one h.2.0, next_written all h.2.2.0)

pub list_written : (all : List Statement) → IsFull (statements_of all (of p.no_statements [])) → HaveLiterals (view_statements all)
list_written [] h = tt
list_written (one ∷ all) h = (statement_written one h.0, next_written all h.2.0)
