-- Statements over expressions as operators and operands, without where nodes lie in memory.
use Rattle.std.specs.Prelude.{ℕ, List, [], ◌∷◌, map}
use Rattle.pascal_grammar.specs.declared.lexeme.Position.{Position}
use Rattle.pascal_grammar.specs.declared.operator.Direction.{Direction}
use Rattle.syntax_tree.specs.declared.statement.Statement.{Statement, Row_of-Statement, end_of-Statement, more_of-Statement, Row_of-CaseArm, end_of-CaseArm, more_of-CaseArm}
use Rattle.syntax_tree.specs.declared.statement.Statement.TheVariants as s
use Rattle.syntax_tree.specs.declared.statement.ElsePart.{ElsePart}
use Rattle.syntax_tree.specs.declared.statement.ElsePart.TheVariants as e
use Rattle.syntax_tree.specs.declared.statement.CaseElse.{CaseElse}
use Rattle.syntax_tree.specs.declared.statement.CaseElse.TheVariants as c
use Rattle.syntax_tree.specs.declared.statement.WithRest.{WithRest}
use Rattle.syntax_tree.specs.declared.statement.WithRest.TheVariants as w
use Rattle.syntax_tree.specs.declared.statement.CaseLabel.{CaseLabel}
use Rattle.syntax_tree.specs.declared.statement.CaseLabel.TheVariants as l
use Rattle.syntax_tree.specs.declared.statement.CaseArm.{CaseArm}
use Rattle.syntax_tree.specs.declared.statement.CaseArm.TheVariants as a
use Rattle.syntax_tree.specs.expression_tree.Trees.{Tree, Operands, no_operands, begins, view_expression, view_simple, view_designator, view_arguments}

-- a label of a `case`, or all from one to another
pub data Label : Type 0 where
  alone : Tree → Label
  from_to : Tree → Tree → Label

mutual
  -- Each with the position of its first lexeme. A call comes with its arguments, of which there may be none; a `with` of several
  -- designators is one inside another; what is missing is empty.
  pub data Task : Type 0 where
    empty : Task
    assignment : Position → Tree → Tree → Task
    run : Position → Tree → Operands → Task
    compound : Tasks → Task
    choice : Position → Tree → Task → Task → Task
    selection : Position → Tree → Branches → Tasks → Task
    while_loop : Position → Tree → Task → Task
    repeat_loop : Position → Tasks → Tree → Task
    for_loop : Position → Position → List ℕ → Tree → Direction → Tree → Task → Task
    opened : Position → Tree → Task → Task

  pub data Tasks : Type 0 where
    no_tasks : Tasks
    and_task : Task → Tasks → Tasks

  pub data Branches : Type 0 where
    no_branches : Branches
    and_branch : List Label → Task → Branches → Branches

abbrev pub view_label : CaseLabel → Label
view_label (l.Single one) = alone (view_simple one)
view_label (l.Range low high) = from_to (view_simple low) (view_simple high)

abbrev mutual
  pub view_statement : Statement → Task
  view_statement s.Empty = empty
  view_statement (s.Assignment target value) = assignment (begins target.value) (view_designator target.value) (view_expression value)
  view_statement (s.BareCall callee) = run (begins callee.value) (view_designator callee.value) no_operands
  view_statement (s.ProcedureCall callee arguments) = run (begins callee.value) (view_designator callee.value) (view_arguments arguments.items)
  view_statement (s.Compound' here shape all) = compound (view_statement_row all)
  view_statement (s.If' here condition p body otherwise) = choice here (view_expression condition) (view_statement body) (view_else otherwise)
  view_statement (s.Case' here selector shape arms semicolon otherwise) = selection here (view_expression selector) (view_arm_row arms) (view_case_else otherwise)
  view_statement (s.While' here condition p body) = while_loop here (view_expression condition) (view_statement body)
  view_statement (s.Repeat' here shape all condition) = repeat_loop here (view_statement_row all) (view_expression condition)
  view_statement (s.For' here variable first way last p body) = for_loop here variable.position variable.name (view_expression first) way.direction (view_expression last) (view_statement body)
  view_statement (s.With' here designator p rest) = opened (begins designator.value) (view_designator designator.value) (view_with rest)

  pub view_statement_row : {n : _} → Row_of-Statement n → Tasks
  view_statement_row end_of-Statement = no_tasks
  view_statement_row (more_of-Statement one rest) = and_task (view_statement one) (view_statement_row rest)

  pub view_else : ElsePart → Task
  view_else e.Absent = empty
  view_else (e.Present' p one) = view_statement one

  pub view_case_else : CaseElse → Tasks
  view_case_else c.Absent = no_tasks
  view_case_else (c.Present' shape all) = view_statement_row all

  pub view_with : WithRest → Task
  view_with (w.Body' p one) = view_statement one
  view_with (w.Next' designator p rest) = opened (begins designator.value) (view_designator designator.value) (view_with rest)

  pub view_arm_row : {n : _} → Row_of-CaseArm n → Branches
  view_arm_row end_of-CaseArm = no_branches
  view_arm_row (more_of-CaseArm (a.Arm labels body) rest) = and_branch (map view_label labels.items) (view_statement body) (view_arm_row rest)

-- the statements of a list
abbrev pub view_statements : List Statement → Tasks
view_statements [] = no_tasks
view_statements (one ∷ rest) = and_task (view_statement one) (view_statements rest)

abbrev pub with_arm : CaseArm → Branches → Branches
with_arm (a.Arm labels body) rest = and_branch (map view_label labels.items) (view_statement body) rest

-- the branches of a list
abbrev pub view_arms : List CaseArm → Branches
view_arms [] = no_branches
view_arms (one ∷ rest) = with_arm one (view_arms rest)
