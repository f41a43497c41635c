-- Lists inside a statement, and lists that grow at their end.
use Rattle.std.proofs.Common.{◌≡◌, ◌≤◌, Bool, true, false, List, [], ◌∷◌, ◌++◌, length, refl, ap, ◌∙◌, Vec, Global, arith}
use Rattle.pascal_grammar.specs.Productions as p
use Rattle.pascal_grammar.specs.declared.lexeme.Position.{Position}
use Rattle.syntax_tree.specs.declared.expression.Expression.{Expression}
use Rattle.syntax_tree.specs.declared.statement.CompoundStatement.{CompoundStatement}
use Rattle.syntax_tree.specs.declared.statement.Statement.{Statement, Row_of-Statement, end_of-Statement, more_of-Statement, items-the_row-Statement, items_hidden-the_row-Statement-0, Row_of-CaseArm, end_of-CaseArm, more_of-CaseArm, items-the_row-CaseArm, items_hidden-the_row-CaseArm-1}
use Rattle.syntax_tree.specs.declared.statement.Statement.TheVariants as s
use Rattle.syntax_tree.specs.declared.statement.CaseElse.{CaseElse}
use Rattle.syntax_tree.specs.declared.statement.CaseElse.TheVariants as c
use Rattle.syntax_tree.specs.declared.statement.CaseArm.{CaseArm}
use Rattle.syntax_tree.specs.declared.statement.CaseArm.TheVariants as a
use Rattle.syntax_tree.specs.declared.statement.CaseLabel.{CaseLabel}
use Rattle.syntax_tree.specs.declared.expression.Argument.{Argument}
use Rattle.syntax_tree.specs.Expressions.{Parsed, of, word, mark_at, of_expression, of_argument}
use Rattle.syntax_tree.specs.Statements.{of_statement, of_statements, more_statements, next_statements, statements_of, compound_of, of_case_else, first_arm, other_arms, more_arms, of_arm, arms_end, next_arms, first_of, others_of, of_label, next_labels, other_labels, next_arguments, arguments_of}
use Rattle.expression_parser.specs.Views as v

-- ---- arguments

next_same : (all : List Argument) (more : Parsed) → next_arguments all more ≡ v.next_arguments all more
next_same [] more = refl
next_same (x ∷ all) more = ap (λ (z : Parsed). of p.next_argument (word ∷ of_argument x ∷ z ∷ [])) (next_same all more)

-- the arguments of a statement are those of an expression
pub arguments_same : (all : List Argument) (more : Parsed) → arguments_of all more ≡ v.arguments_of all more
arguments_same [] more = refl
arguments_same (x ∷ all) more = ap (λ (z : Parsed). of p.arguments (word ∷ of_argument x ∷ z ∷ word ∷ [])) (next_same all more)

-- ---- statements

more_are : (n : _) (row : Row_of-Statement n) → more_statements row ≡ next_statements (items-the_row-Statement n row) (of p.no_statements [])
more_are n end_of-Statement = refl
more_are n (more_of-Statement x all) = ap (λ (z : Parsed). of p.next_statement (word ∷ of_statement x ∷ z ∷ [])) (more_are _ all)

all_are : (n : _) (row : Row_of-Statement n) → of_statements row ≡ statements_of (items-the_row-Statement n row) (of p.no_statements [])
all_are n end_of-Statement = refl
all_are n (more_of-Statement x all) = ap (λ (z : Parsed). of p.statements (of_statement x ∷ z ∷ [])) (more_are _ all)

abbrev row_of : Statement → (n : _) × Row_of-Statement n
row_of (s.Compound' here shape row) = (_, row)
row_of (s.Repeat' here shape row i) = (_, row)
row_of x = (_, end_of-Statement)

abbrev else_row : CaseElse → (n : _) × Row_of-Statement n
else_row (c.Present' shape row) = (_, row)
else_row x = (_, end_of-Statement)

abbrev listed : List Statement → Parsed
listed all = statements_of all (of p.no_statements [])

pub compound_is : (x : CompoundStatement) → of_statement (s.Compound x) ≡ of p.compound_statement (compound_of x ∷ [])
compound_is x =
    let row = row_of (s.Compound x) in
    ap (λ (z : Parsed). of p.compound_statement (of p.compound (mark_at x.position ∷ z ∷ word ∷ []) ∷ [])) (all_are row.0 row.1 ∙ ap listed (items_hidden-the_row-Statement-0 x.statements))

pub repeat_is : (here : Position) (all : Vec Statement Global) (i : Expression) → of_statement (s.Repeat here all i) ≡ of p.repeat_statement (mark_at here ∷ listed all.items ∷ word ∷ of_expression i ∷ [])
repeat_is here all i =
    let row = row_of (s.Repeat here all i) in
    ap (λ (z : Parsed). of p.repeat_statement (mark_at here ∷ z ∷ word ∷ of_expression i ∷ [])) (all_are row.0 row.1 ∙ ap listed (items_hidden-the_row-Statement-0 all))

pub case_else_is : (all : Vec Statement Global) → of_case_else (c.Present all) ≡ of p.case_else (word ∷ listed all.items ∷ [])
case_else_is all =
    let row = else_row (c.Present all) in
    ap (λ (z : Parsed). of p.case_else (word ∷ z ∷ [])) (all_are row.0 row.1 ∙ ap listed (items_hidden-the_row-Statement-0 all))

next_pushed : (all : List Statement) (x : Statement) (more : Parsed) → next_statements (all ++ (x ∷ [])) more ≡ next_statements all (of p.next_statement (word ∷ of_statement x ∷ more ∷ []))
next_pushed [] x more = refl
next_pushed (y ∷ all) x more = ap (λ (z : Parsed). of p.next_statement (word ∷ of_statement y ∷ z ∷ [])) (next_pushed all x more)

pub statements_pushed : (all : List Statement) (x : Statement) (more : Parsed) → 1 ≤ length all → statements_of (all ++ (x ∷ [])) more ≡ statements_of all (of p.next_statement (word ∷ of_statement x ∷ more ∷ []))
statements_pushed [] x more h = absurd (omega arith)
statements_pushed (y ∷ all) x more h = ap (λ (z : Parsed). of p.statements (of_statement y ∷ z ∷ [])) (next_pushed all x more)

-- ---- arms

arms_are : (n : _) (row : Row_of-CaseArm n) (b : Bool) → more_arms row b ≡ next_arms (items-the_row-CaseArm n row) (arms_end b)
arms_are n end_of-CaseArm true = refl
arms_are n end_of-CaseArm false = refl
arms_are n (more_of-CaseArm (a.Arm ls x) all) b = ap (λ (z : Parsed). of p.semicolon_arms (word ∷ of p.next_arm (of_arm (a.Arm ls x) ∷ z ∷ []) ∷ [])) (arms_are _ all b)

first_are : (n : _) (row : Row_of-CaseArm n) → first_arm row ≡ first_of (items-the_row-CaseArm n row)
first_are n end_of-CaseArm = refl
first_are n (more_of-CaseArm (a.Arm ls x) all) = refl

others_are : (n : _) (row : Row_of-CaseArm n) (b : Bool) → other_arms row b ≡ others_of (items-the_row-CaseArm n row) (arms_end b)
others_are n end_of-CaseArm b = refl
others_are n (more_of-CaseArm x all) b = arms_are _ all b

abbrev arms_row : Statement → (n : _) × Row_of-CaseArm n
arms_row (s.Case' here i shape row b y) = (_, row)
arms_row x = (_, end_of-CaseArm)

pub case_is : (here : Position) (i : Expression) (all : Vec CaseArm Global) (b : Bool) (y : CaseElse) → of_statement (s.Case here i all b y) ≡ of p.case_statement (mark_at here ∷ of_expression i ∷ word ∷ first_of all.items ∷ others_of all.items (arms_end b) ∷ of_case_else y ∷ word ∷ [])
case_is here i all b y =
    let row = arms_row (s.Case here i all b y) in
    let e = items_hidden-the_row-CaseArm-1 all in
    ap (λ (z : Parsed). of p.case_statement (mark_at here ∷ of_expression i ∷ word ∷ z ∷ other_arms row.1 b ∷ of_case_else y ∷ word ∷ [])) (first_are row.0 row.1 ∙ ap first_of e)
    ∙ ap (λ (z : Parsed). of p.case_statement (mark_at here ∷ of_expression i ∷ word ∷ first_of all.items ∷ z ∷ of_case_else y ∷ word ∷ [])) (others_are row.0 row.1 b ∙ ap (λ (l : List CaseArm). others_of l (arms_end b)) e)

next_arms_pushed : (all : List CaseArm) (x : CaseArm) (more : Parsed) → next_arms (all ++ (x ∷ [])) more ≡ next_arms all (of p.semicolon_arms (word ∷ of p.next_arm (of_arm x ∷ more ∷ []) ∷ []))
next_arms_pushed [] x more = refl
next_arms_pushed (y ∷ all) x more = ap (λ (z : Parsed). of p.semicolon_arms (word ∷ of p.next_arm (of_arm y ∷ z ∷ []) ∷ [])) (next_arms_pushed all x more)

pub others_pushed : (all : List CaseArm) (x : CaseArm) (more : Parsed) → 1 ≤ length all → others_of (all ++ (x ∷ [])) more ≡ others_of all (of p.semicolon_arms (word ∷ of p.next_arm (of_arm x ∷ more ∷ []) ∷ []))
others_pushed [] x more h = absurd (omega arith)
others_pushed (y ∷ all) x more h = next_arms_pushed all x more

-- ---- labels

next_labels_pushed : (all : List CaseLabel) (x : CaseLabel) (more : Parsed) → next_labels (all ++ (x ∷ [])) more ≡ next_labels all (of p.next_label (word ∷ of_label x ∷ more ∷ []))
next_labels_pushed [] x more = refl
next_labels_pushed (y ∷ all) x more = ap (λ (z : Parsed). of p.next_label (word ∷ of_label y ∷ z ∷ [])) (next_labels_pushed all x more)

pub other_labels_pushed : (all : List CaseLabel) (x : CaseLabel) (more : Parsed) → 1 ≤ length all → other_labels (all ++ (x ∷ [])) more ≡ other_labels all (of p.next_label (word ∷ of_label x ∷ more ∷ []))
other_labels_pushed [] x more h = absurd (omega arith)
other_labels_pushed (y ∷ all) x more h = next_labels_pushed all x more
