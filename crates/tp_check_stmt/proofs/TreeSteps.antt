-- Statements round a list that lies in a vector, by the judgements of their parts.
use Rattle.std.proofs.Common.{◌≡◌, Bool, List, [], Result, Ok, Err, ap, refl, ◌∙◌, Vec, Global}
use Rattle.pascal_grammar.specs.declared.lexeme.Position.{Position}
use Rattle.syntax_tree.specs.declared.expression.Expression as source
use Rattle.syntax_tree.specs.declared.statement.CaseArm.{CaseArm}
use Rattle.syntax_tree.specs.declared.statement.CaseElse.{CaseElse}
use Rattle.syntax_tree.specs.declared.statement.CompoundStatement.{CompoundStatement}
use Rattle.syntax_tree.specs.declared.statement.Statement as tree
use Rattle.syntax_tree.specs.declared.statement.Statement.TheVariants as s
use Rattle.syntax_tree.specs.expression_tree.Trees.{view_expression}
use Rattle.syntax_tree.specs.statement_tree.Trees.{Task, view_statement, view_statements, view_case_else, view_arms}
use Rattle.syntax_tree.proofs.statement_tree.Views.{view_compound, view_repeat, view_case}
use Rattle.typed_tree.specs.declared.statements.Stmt.{Stmt}
use Rattle.typed_tree.specs.Expressions.{Expression}
use Rattle.typed_tree.specs.Statements.{Statement, Case, view_stmt}
use Rattle.scopes.specs.Environment.{Environment}
use Rattle.typing_rules.specs.declared.faults.Fault.{Fault}
use Rattle.typing_rules.specs.declared.faults.Refusal.{Refusal}
use Rattle.typing_rules.specs.declared.faults.Refusal.TheVariants as refusal
use Rattle.typing_rules.specs.Judgements.{Gives, FailsAs, part}
use Rattle.typing_rules.specs.Sorts.{sort_of}
use Rattle.tp_check_stmt.specs.Asked.{condition, selector}
use Rattle.tp_check_stmt.specs.Typed.{Armed, arms_of, block_of, blocked, repeating, stated, listed, branched, chosen}

module _ (g : Environment) where
  pub compound_judged : (x : CompoundStatement) → (stated g (view_statement (s.Compound x))).run ≡ (blocked (listed g (view_statements x.statements.items))).run
  compound_judged x = ap (λ (t : Task). (stated g t).run) (view_compound x)

  pub repeat_judged : (here : Position) (all : Vec tree.Statement Global) (test : source.Expression)
      → (stated g (view_statement (s.Repeat here all test))).run ≡ (repeating (listed g (view_statements all.items)) (condition g (view_expression test))).run
  repeat_judged here all test = ap (λ (t : Task). (stated g t).run) (view_repeat here all test)

module _ (g : Environment) (here : Position) (by : source.Expression) (arms : Vec CaseArm Global) (semicolon : Bool) (otherwise : CaseElse) where
  abbrev whole : Result Statement Fault
  whole = (stated g (view_statement (s.Case here by arms semicolon otherwise))).run

  case_judged : whole ≡ (part (selector g (view_expression by)) (chosen g (view_arms arms.items) (view_case_else otherwise))).run
  case_judged = ap (λ (t : Task). (stated g t).run) (view_case here by arms semicolon otherwise)

  -- the selector is judged
  module _ (e : Expression) (p : (selector g (view_expression by)).run ≡ Ok e) where
    pub arms_fail : (r : Refusal) → FailsAs r (branched g (sort_of g.types.types e) [] (view_arms arms.items)).run → FailsAs r whole
    arms_fail refusal.NoMemory f = tt
    arms_fail (refusal.Because fault) f = case_judged ∙ rw (p, f) refl

    -- the branches are judged
    module _ (all : List Armed) (q : (branched g (sort_of g.types.types e) [] (view_arms arms.items)).run ≡ Ok all) where
      pub other_fails : (r : Refusal) → FailsAs r (listed g (view_case_else otherwise)).run → FailsAs r whole
      other_fails refusal.NoMemory f = tt
      other_fails (refusal.Because fault) f = case_judged ∙ rw (p, q, f) refl

      pub case_made : (l : List Statement) (result : Result Stmt Refusal) → (listed g (view_case_else otherwise)).run ≡ Ok l
          → Gives view_stmt result (Ok (Case e (arms_of all) (block_of l))) → Gives view_stmt result whole
      case_made l result o made =
          let m : whole ≡ Ok (Case e (arms_of all) (block_of l)) = case_judged ∙ rw (p, q, o) refl in
          rw m made
