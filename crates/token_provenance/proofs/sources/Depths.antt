-- Each `with`, and each designator of one behind the first, opens a construct: so no more of them stand inside one another than
-- constructs are open at once.
use Rattle.std.proofs.Common.{ℕ, ◌≤◌, ◌+◌, max, zero-le, arith, Bool, List, [], ◌∷◌, lit≤}
use Rattle.std.proofs.Math.Nat.{le_refl, le_trans, le-max_left, le-max_right, max-le, le-add_left}
use Rattle.source_graph.specs.pascal_grammar.Productions as p
use Rattle.source_graph.specs.pascal_grammar.Rules.{grammar}
use Rattle.source_graph.specs.ll1_grammar.Grammar.{deep}
use Rattle.source_graph.specs.syntax_tree.declared.statement.CompoundStatement.{CompoundStatement}
use Rattle.source_graph.specs.syntax_tree.declared.statement.Statement.{Statement, Row_of-Statement, end_of-Statement, more_of-Statement, Row_of-CaseArm, end_of-CaseArm, more_of-CaseArm}
use Rattle.source_graph.specs.syntax_tree.declared.statement.Statement.TheVariants as s
use Rattle.source_graph.specs.syntax_tree.declared.statement.ElsePart.{ElsePart}
use Rattle.source_graph.specs.syntax_tree.declared.statement.ElsePart.TheVariants as e
use Rattle.source_graph.specs.syntax_tree.declared.statement.CaseElse.{CaseElse}
use Rattle.source_graph.specs.syntax_tree.declared.statement.CaseElse.TheVariants as c
use Rattle.source_graph.specs.syntax_tree.declared.statement.WithRest.{WithRest}
use Rattle.source_graph.specs.syntax_tree.declared.statement.WithRest.TheVariants as w
use Rattle.source_graph.specs.syntax_tree.declared.statement.CaseArm.TheVariants as a
use Rattle.source_graph.specs.syntax_tree.Expressions.{of}
use Rattle.source_graph.specs.syntax_tree.Statements.{of_statement, of_statements, more_statements, of_else, of_case_else, of_with, first_arm, other_arms, more_arms, next_statements, statements_of, compound_of}
use Rattle.source_graph.specs.syntax_tree.statement_tree.Trees.{view_statement, view_statement_row, view_else, view_case_else, view_with, view_arm_row, view_statements}
use Rattle.source_graph.specs.tp_parser.Parsing.{limit}
use Rattle.units_well_formed.specs.units.Below.{depth_of, depth_in, depth_among, IsKept}
use Rattle.token_provenance.proofs.sources.Full.{IsFull}
use Rattle.token_provenance.proofs.sources.Statements.{list_written}

-- ---- the depth of a part, against that of what it is in

first : (a b : ℕ) {n : ℕ} → n ≤ a → n ≤ max a b
first a b h = le_trans h (le-max_left a b)

behind : (a b : ℕ) {n : ℕ} → n ≤ b → n ≤ max a b
behind a b h = le_trans h (le-max_right a b)

inside : (a b : ℕ) {n : ℕ} → n ≤ b → n ≤ a + b
inside a b h = le_trans h (le-add_left b a)

-- one that opens a construct
opening : (b : ℕ) {n : ℕ} → n ≤ b → n + 1 ≤ 1 + b
opening b h = omega arith

-- ---- statements

mutual
  statement_depth : (one : Statement) → depth_of (view_statement one) ≤ deep grammar (of_statement one)
  statement_depth s.Empty = zero-le
  statement_depth (s.Assignment d x) = zero-le
  statement_depth (s.BareCall d) = zero-le
  statement_depth (s.ProcedureCall d all) = zero-le
  statement_depth (s.Compound' here shape all) = inside _ _ (first _ _ (inside _ _ (behind _ _ (first _ _ (statements_depth all)))))
  statement_depth (s.If' here x q one other) = max-le (inside _ _ (behind _ _ (behind _ _ (behind _ _ (first _ _ (statement_depth one)))))) (inside _ _ (behind _ _ (behind _ _ (behind _ _ (behind _ _ (first _ _ (else_depth other)))))))
  statement_depth (s.Case' here x shape arms b other) =
      max-le
      (arms_depth arms b (inside _ _ (behind _ _ (behind _ _ (behind _ _ (first _ _ (le_refl _)))))) (inside _ _ (behind _ _ (behind _ _ (behind _ _ (behind _ _ (first _ _ (le_refl _))))))))
      (inside _ _ (behind _ _ (behind _ _ (behind _ _ (behind _ _ (behind _ _ (first _ _ (case_else_depth other))))))))
  statement_depth (s.While' here x q one) = inside _ _ (behind _ _ (behind _ _ (behind _ _ (first _ _ (statement_depth one)))))
  statement_depth (s.Repeat' here shape all x) = inside _ _ (behind _ _ (first _ _ (statements_depth all)))
  statement_depth (s.For' here name x way y q one) = inside _ _ (behind _ _ (behind _ _ (behind _ _ (behind _ _ (behind _ _ (behind _ _ (behind _ _ (first _ _ (statement_depth one)))))))))
  statement_depth (s.With' here d q one) = opening _ (behind _ _ (behind _ _ (first _ _ (with_depth one))))

  statements_depth : {n : _} (all : Row_of-Statement n) → depth_in (view_statement_row all) ≤ deep grammar (of_statements all)
  statements_depth end_of-Statement = zero-le
  statements_depth (more_of-Statement one all) = max-le (inside _ _ (first _ _ (statement_depth one))) (inside _ _ (behind _ _ (first _ _ (more_depth all))))

  more_depth : {n : _} (all : Row_of-Statement n) → depth_in (view_statement_row all) ≤ deep grammar (more_statements all)
  more_depth end_of-Statement = zero-le
  more_depth (more_of-Statement one all) = max-le (inside _ _ (behind _ _ (first _ _ (statement_depth one)))) (inside _ _ (behind _ _ (behind _ _ (first _ _ (more_depth all)))))

  else_depth : (one : ElsePart) → depth_of (view_else one) ≤ deep grammar (of_else one)
  else_depth e.Absent = zero-le
  else_depth (e.Present' q one) = inside _ _ (behind _ _ (first _ _ (statement_depth one)))

  case_else_depth : (one : CaseElse) → depth_in (view_case_else one) ≤ deep grammar (of_case_else one)
  case_else_depth c.Absent = zero-le
  case_else_depth (c.Present' shape all) = inside _ _ (behind _ _ (first _ _ (statements_depth all)))

  with_depth : (one : WithRest) → depth_of (view_with one) ≤ deep grammar (of_with one)
  with_depth (w.Body' q one) = inside _ _ (behind _ _ (first _ _ (statement_depth one)))
  with_depth (w.Next' d q one) = opening _ (behind _ _ (behind _ _ (first _ _ (with_depth one))))

  -- where both the first arm and those behind it are no deeper than k
  arms_depth : {n k : _} (all : Row_of-CaseArm n) (b : Bool) → deep grammar (first_arm all) ≤ k → deep grammar (other_arms all b) ≤ k → depth_among (view_arm_row all) ≤ k
  arms_depth end_of-CaseArm b h j = zero-le
  arms_depth (more_of-CaseArm (a.Arm labels one) all) b h j = max-le (le_trans (inside _ _ (behind _ _ (behind _ _ (behind _ _ (first _ _ (statement_depth one)))))) h) (le_trans (more_arms_depth all b) j)

  more_arms_depth : {n : _} (all : Row_of-CaseArm n) (b : Bool) → depth_among (view_arm_row all) ≤ deep grammar (more_arms all b)
  more_arms_depth end_of-CaseArm b = zero-le
  more_arms_depth (more_of-CaseArm (a.Arm labels one) all) b =
      max-le
      (inside _ _ (behind _ _ (first _ _ (inside _ _ (first _ _ (inside _ _ (behind _ _ (behind _ _ (behind _ _ (first _ _ (statement_depth one)))))))))))
      (inside _ _ (behind _ _ (first _ _ (inside _ _ (behind _ _ (first _ _ (more_arms_depth all b)))))))

-- ---- the same over lists, and a body

next_depth : (all : List Statement) → depth_in (view_statements all) ≤ deep grammar (next_statements all (of p.no_statements []))
next_depth [] = zero-le
next_depth (one ∷ all) = max-le (inside _ _ (behind _ _ (first _ _ (statement_depth one)))) (inside _ _ (behind _ _ (behind _ _ (first _ _ (next_depth all)))))

list_depth : (all : List Statement) → depth_in (view_statements all) ≤ deep grammar (statements_of all (of p.no_statements []))
list_depth [] = zero-le
list_depth (one ∷ all) = max-le (inside _ _ (first _ _ (statement_depth one))) (inside _ _ (behind _ _ (first _ _ (next_depth all))))

pub body_kept : (body : CompoundStatement) → IsFull (compound_of body) → deep grammar (compound_of body) ≤ limit → IsKept body
body_kept body h d = record {
  literals = list_written body.statements.items h.2.0;
  depth = le_trans (inside _ _ (behind _ _ (first _ _ (list_depth body.statements.items)))) (le_trans d (lit≤ tt));
}
