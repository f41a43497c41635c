-- What the grammar makes of a statement.
use Rattle.std.specs.Prelude.{Bool, true, false, List, [], ◌∷◌}
use Rattle.pascal_grammar.specs.Lexemes as v
use Rattle.pascal_grammar.specs.Productions.{Production}
use Rattle.pascal_grammar.specs.Productions as p
use Rattle.ll1_grammar.specs.Grammar.{nil, leaf}
use Rattle.syntax_tree.specs.Expressions.{Parsed, of, word, mark_at, name_of, of_expression, of_simple, of_argument, head_of, selectors}
use Rattle.syntax_tree.specs.declared.expression.Expression.{Expression}
use Rattle.syntax_tree.specs.declared.expression.SimpleExpression.{SimpleExpression}
use Rattle.syntax_tree.specs.declared.expression.Argument.{Argument}
use Rattle.syntax_tree.specs.declared.expression.Designator.{Designator}
use Rattle.syntax_tree.specs.declared.statement.PlacedDirection.{PlacedDirection}
use Rattle.syntax_tree.specs.declared.statement.CompoundStatement.{CompoundStatement}
use Rattle.syntax_tree.specs.declared.statement.Statement.{Statement, Row_of-Statement, end_of-Statement, more_of-Statement, Row_of-CaseArm, end_of-CaseArm, more_of-CaseArm}
use Rattle.syntax_tree.specs.declared.statement.Statement.TheVariants as s
use Rattle.syntax_tree.specs.declared.statement.ElsePart.{ElsePart}
use Rattle.syntax_tree.specs.declared.statement.ElsePart.TheVariants as e
use Rattle.syntax_tree.specs.declared.statement.CaseElse.{CaseElse}
use Rattle.syntax_tree.specs.declared.statement.CaseElse.TheVariants as c
use Rattle.syntax_tree.specs.declared.statement.WithRest.{WithRest}
use Rattle.syntax_tree.specs.declared.statement.WithRest.TheVariants as w
use Rattle.syntax_tree.specs.declared.statement.CaseLabel.{CaseLabel}
use Rattle.syntax_tree.specs.declared.statement.CaseLabel.TheVariants as l
use Rattle.syntax_tree.specs.declared.statement.CaseArm.{CaseArm}
use Rattle.syntax_tree.specs.declared.statement.CaseArm.TheVariants as a

abbrev pub simple_of : SimpleExpression → Parsed
simple_of i = of_simple i (of p.no_terms [])

abbrev pub designator_of : Designator → Parsed
designator_of d = of p.designator (head_of d ∷ selectors d (of p.no_selectors []) ∷ [])

abbrev pub direction_of : PlacedDirection → Parsed
direction_of x = leaf (v.direction x.direction x.position)

abbrev pub next_arguments : List Argument → Parsed → Parsed
next_arguments [] more = more
next_arguments (i ∷ all) more = of p.next_argument (word ∷ of_argument i ∷ next_arguments all more ∷ [])

-- the first argument, and those behind it
abbrev pub argument_list : List Argument → Parsed → Parsed × Parsed
argument_list [] more = (nil, nil)
argument_list (i ∷ all) more = (of_argument i, next_arguments all more)

abbrev pub arguments_of : List Argument → Parsed → Parsed
arguments_of all more = of p.arguments (word ∷ (argument_list all more).0 ∷ (argument_list all more).1 ∷ word ∷ [])

-- a statement that begins with a designator, and what comes behind that
abbrev pub named_of : Designator → Parsed → Parsed
named_of d after = of p.named_statement (head_of d ∷ selectors d (of p.no_selectors []) ∷ after ∷ [])

-- ---- the labels of an arm

abbrev pub of_label : CaseLabel → Parsed
of_label (l.Single i) = of p.label (simple_of i ∷ of p.single_label [] ∷ [])
of_label (l.Range i j) = of p.label (simple_of i ∷ of p.label_range (word ∷ simple_of j ∷ []) ∷ [])

abbrev pub next_labels : List CaseLabel → Parsed → Parsed
next_labels [] more = more
next_labels (x ∷ all) more = of p.next_label (word ∷ of_label x ∷ next_labels all more ∷ [])

-- no labels at all are spelled by nothing
abbrev pub first_label : List CaseLabel → Parsed
first_label [] = nil
first_label (x ∷ all) = of_label x

-- the labels behind the first, and what comes behind them
abbrev pub other_labels : List CaseLabel → Parsed → Parsed
other_labels [] more = nil
other_labels (x ∷ all) more = next_labels all more

-- an arm from its labels on
abbrev pub arm_of : List CaseLabel → Parsed → Parsed
arm_of all body = of p.arm (first_label all ∷ other_labels all (of p.no_labels []) ∷ word ∷ body ∷ [])

-- ---- statements

abbrev mutual
  pub of_statement : Statement → Parsed
  of_statement s.Empty = of p.empty_statement []
  of_statement (s.Assignment d i) = named_of d.value (of p.assignment (word ∷ of_expression i ∷ []))
  of_statement (s.BareCall d) = named_of d.value (of p.no_arguments [])
  of_statement (s.ProcedureCall d all) = named_of d.value (of p.called (arguments_of all.items (of p.no_more_arguments []) ∷ of p.no_cast [] ∷ []))
  of_statement (s.Compound' here shape all) = of p.compound_statement (of p.compound (mark_at here ∷ of_statements all ∷ word ∷ []) ∷ [])
  of_statement (s.If' here i q x y) = of p.if_statement (mark_at here ∷ of_expression i ∷ word ∷ of_statement x ∷ of_else y ∷ [])
  of_statement (s.Case' here i shape arms b y) = of p.case_statement (mark_at here ∷ of_expression i ∷ word ∷ first_arm arms ∷ other_arms arms b ∷ of_case_else y ∷ word ∷ [])
  of_statement (s.While' here i q x) = of p.while_statement (mark_at here ∷ of_expression i ∷ word ∷ of_statement x ∷ [])
  of_statement (s.Repeat' here shape all i) = of p.repeat_statement (mark_at here ∷ of_statements all ∷ word ∷ of_expression i ∷ [])
  of_statement (s.For' here name i way j q x) = of p.for_statement (mark_at here ∷ name_of name ∷ word ∷ of_expression i ∷ direction_of way ∷ of_expression j ∷ word ∷ of_statement x ∷ [])
  of_statement (s.With' here d q x) = of p.with_statement (mark_at here ∷ designator_of d.value ∷ of_with x ∷ [])

  -- no statements at all are spelled by nothing
  pub of_statements : {n : _} → Row_of-Statement n → Parsed
  of_statements end_of-Statement = nil
  of_statements (more_of-Statement x all) = of p.statements (of_statement x ∷ more_statements all ∷ [])

  pub more_statements : {n : _} → Row_of-Statement n → Parsed
  more_statements end_of-Statement = of p.no_statements []
  more_statements (more_of-Statement x all) = of p.next_statement (word ∷ of_statement x ∷ more_statements all ∷ [])

  pub of_else : ElsePart → Parsed
  of_else e.Absent = of p.without_else []
  of_else (e.Present' q x) = of p.with_else (word ∷ of_statement x ∷ [])

  pub of_case_else : CaseElse → Parsed
  of_case_else c.Absent = of p.no_case_else []
  of_case_else (c.Present' shape all) = of p.case_else (word ∷ of_statements all ∷ [])

  pub of_with : WithRest → Parsed
  of_with (w.Body' q x) = of p.with_body (word ∷ of_statement x ∷ [])
  of_with (w.Next' d q x) = of p.next_designator (word ∷ designator_of d.value ∷ of_with x ∷ [])

  -- the first arm; no arms at all are spelled by nothing
  pub first_arm : {n : _} → Row_of-CaseArm n → Parsed
  first_arm end_of-CaseArm = nil
  first_arm (more_of-CaseArm (a.Arm ls x) all) = arm_of ls.items (of_statement x)

  -- the arms behind the first
  pub other_arms : {n : _} → Row_of-CaseArm n → Bool → Parsed
  other_arms end_of-CaseArm b = nil
  other_arms (more_of-CaseArm x all) b = more_arms all b

  pub more_arms : {n : _} → Row_of-CaseArm n → Bool → Parsed
  more_arms end_of-CaseArm false = of p.no_semicolon []
  more_arms end_of-CaseArm true = of p.semicolon_arms (word ∷ of p.no_arms [] ∷ [])
  more_arms (more_of-CaseArm (a.Arm ls x) all) b = of p.semicolon_arms (word ∷ of p.next_arm (arm_of ls.items (of_statement x) ∷ more_arms all b ∷ []) ∷ [])

abbrev pub of_arm : CaseArm → Parsed
of_arm (a.Arm ls x) = arm_of ls.items (of_statement x)

-- ---- the same over lists

abbrev pub next_statements : List Statement → Parsed → Parsed
next_statements [] more = more
next_statements (x ∷ all) more = of p.next_statement (word ∷ of_statement x ∷ next_statements all more ∷ [])

-- statements, and what comes behind them
abbrev pub statements_of : List Statement → Parsed → Parsed
statements_of [] more = nil
statements_of (x ∷ all) more = of p.statements (of_statement x ∷ next_statements all more ∷ [])

abbrev pub compound_of : CompoundStatement → Parsed
compound_of x = of p.compound (mark_at x.position ∷ statements_of x.statements.items (of p.no_statements []) ∷ word ∷ [])

-- whether a semicolon stands behind the last arm
abbrev pub arms_end : Bool → Parsed
arms_end false = of p.no_semicolon []
arms_end true = of p.semicolon_arms (word ∷ of p.no_arms [] ∷ [])

abbrev pub next_arms : List CaseArm → Parsed → Parsed
next_arms [] more = more
next_arms (x ∷ all) more = of p.semicolon_arms (word ∷ of p.next_arm (of_arm x ∷ next_arms all more ∷ []) ∷ [])

abbrev pub first_of : List CaseArm → Parsed
first_of [] = nil
first_of (x ∷ all) = of_arm x

-- the arms behind the first, and what comes behind them
abbrev pub others_of : List CaseArm → Parsed → Parsed
others_of [] more = nil
others_of (x ∷ all) more = next_arms all more
