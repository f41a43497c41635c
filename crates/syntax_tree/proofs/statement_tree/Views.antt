-- Statements round a list that lies in a vector.
use Rattle.std.proofs.Common.{◌≡◌, Bool, ap, refl, ◌∙◌, Vec, Global}
use Rattle.pascal_grammar.specs.declared.lexeme.Position.{Position}
use Rattle.syntax_tree.specs.declared.expression.Expression.{Expression}
use Rattle.syntax_tree.specs.declared.statement.CompoundStatement.{CompoundStatement}
use Rattle.syntax_tree.specs.declared.statement.CaseElse.{CaseElse}
use Rattle.syntax_tree.specs.declared.statement.CaseElse.TheVariants as c
use Rattle.syntax_tree.specs.declared.statement.CaseArm.{CaseArm}
use Rattle.syntax_tree.specs.declared.statement.CaseArm.TheVariants as a
use Rattle.syntax_tree.specs.declared.statement.Statement.{Statement, Row_of-Statement, end_of-Statement, more_of-Statement, Row_of-CaseArm, end_of-CaseArm, more_of-CaseArm, items-the_row-Statement, items_hidden-the_row-Statement-0, items-the_row-CaseArm, items_hidden-the_row-CaseArm-1}
use Rattle.syntax_tree.specs.declared.statement.Statement.TheVariants as s
use Rattle.syntax_tree.specs.expression_tree.Trees.{view_expression}
use Rattle.syntax_tree.specs.statement_tree.Trees.{Tasks, Branches, compound, selection, repeat_loop, and_task, view_statement, view_statements, view_statement_row, view_case_else, with_arm, view_arms, view_arm_row}

statement_row : (n : _) (row : Row_of-Statement n) → view_statement_row row ≡ view_statements (items-the_row-Statement n row)
statement_row n end_of-Statement = refl
statement_row n (more_of-Statement one rest) = ap (λ (z : Tasks). and_task (view_statement one) z) (statement_row _ rest)

arm_row : (n : _) (row : Row_of-CaseArm n) → view_arm_row row ≡ view_arms (items-the_row-CaseArm n row)
arm_row n end_of-CaseArm = refl
arm_row n (more_of-CaseArm (a.Arm labels body) rest) = ap (λ (z : Branches). with_arm (a.Arm labels body) z) (arm_row _ rest)

abbrev statements_of : Statement → (n : _) × Row_of-Statement n
statements_of (s.Compound' here shape all) = (_, all)
statements_of (s.Repeat' here shape all condition) = (_, all)
statements_of _ = (_, end_of-Statement)

abbrev else_of : CaseElse → (n : _) × Row_of-Statement n
else_of (c.Present' shape all) = (_, all)
else_of c.Absent = (_, end_of-Statement)

abbrev arms_of : Statement → (n : _) × Row_of-CaseArm n
arms_of (s.Case' here selector shape arms semicolon otherwise) = (_, arms)
arms_of _ = (_, end_of-CaseArm)

pub view_compound : (x : CompoundStatement) → view_statement (s.Compound x) ≡ compound (view_statements x.statements.items)
view_compound x =
    let row = statements_of (s.Compound x) in
    ap (λ (z : Tasks). compound z) (statement_row row.0 row.1 ∙ ap view_statements (items_hidden-the_row-Statement-0 x.statements))

pub view_case_present : (all : Vec Statement Global) → view_case_else (c.Present all) ≡ view_statements all.items
view_case_present all =
    let row = else_of (c.Present all) in
    statement_row row.0 row.1 ∙ ap view_statements (items_hidden-the_row-Statement-0 all)

pub view_repeat : (here : Position) (all : Vec Statement Global) (condition : Expression) → view_statement (s.Repeat here all condition) ≡ repeat_loop here (view_statements all.items) (view_expression condition)
view_repeat here all condition =
    let row = statements_of (s.Repeat here all condition) in
    ap (λ (z : Tasks). repeat_loop here z (view_expression condition)) (statement_row row.0 row.1 ∙ ap view_statements (items_hidden-the_row-Statement-0 all))

pub view_case : (here : Position) (selector : Expression) (arms : Vec CaseArm Global) (semicolon : Bool) (otherwise : CaseElse) → view_statement (s.Case here selector arms semicolon otherwise) ≡ selection here (view_expression selector) (view_arms arms.items) (view_case_else otherwise)
view_case here selector arms semicolon otherwise =
    let row = arms_of (s.Case here selector arms semicolon otherwise) in
    ap (λ (z : Branches). selection here (view_expression selector) z (view_case_else otherwise)) (arm_row row.0 row.1 ∙ ap view_arms (items_hidden-the_row-CaseArm-1 arms))
