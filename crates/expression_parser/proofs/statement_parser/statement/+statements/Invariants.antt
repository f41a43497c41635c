use Rattle.std.proofs.Common.{◌≡◌, ◌+◌, ◌*◌, List, ◌∷◌, length}
use Rattle.syntax_tree.specs.declared.statement.Statement.{Statement}
use Rattle.syntax_tree.specs.declared.statement.CaseArm.{CaseArm}
use Rattle.syntax_tree.specs.Expressions.{Parsed}
use Rattle.syntax_tree.specs.Statements.{statements_of, of_arm, first_of, others_of}
use Rattle.expression_parser.specs.statement_parser.Chains.{chain_at}
use Rattle.expression_parser.specs.statement_parser.Reading.{within, more_statements, statements_at, more_arms}
use Rattle.expression_parser.proofs.statement_parser.Loop.{Goes}
use Rattle.expression_parser.proofs.statement_parser.statement.+statements.Given as goal

abbrev pub decreases-next_statement : goal.decreases-next_statement
decreases-next_statement l = 8 * l.depth + 2

abbrev pub decreases-next_compound : goal.decreases-next_compound
decreases-next_compound l = 8 * l.depth + 1

abbrev pub decreases-next_statements : goal.decreases-next_statements
decreases-next_statements l = 8 * l.depth + 3

abbrev pub decreases-next_if : goal.decreases-next_if
decreases-next_if l = 8 * l.depth + 1

abbrev pub decreases-next_else : goal.decreases-next_else
decreases-next_else l = 8 * l.depth + 3

abbrev pub decreases-next_case : goal.decreases-next_case
decreases-next_case l = 8 * l.depth + 1

abbrev pub decreases-next_arms : goal.decreases-next_arms
decreases-next_arms l = 8 * l.depth + 4

abbrev pub decreases-next_arm : goal.decreases-next_arm
decreases-next_arm l = 8 * l.depth + 3

abbrev pub decreases-next_case_else : goal.decreases-next_case_else
decreases-next_case_else l = 8 * l.depth + 4

abbrev pub decreases-next_while : goal.decreases-next_while
decreases-next_while l = 8 * l.depth + 1

abbrev pub decreases-next_repeat : goal.decreases-next_repeat
decreases-next_repeat l = 8 * l.depth + 1

abbrev pub decreases-next_for : goal.decreases-next_for
decreases-next_for l = 8 * l.depth + 1

abbrev pub decreases-next_with : goal.decreases-next_with
decreases-next_with l = 8 * l.depth + 1

abbrev pub decreases-next_with_rest : goal.decreases-next_with_rest
decreases-next_with_rest l = 8 * l.depth + 3

abbrev pub invariant-next_statements-semicolons : goal.invariant-next_statements-semicolons
invariant-next_statements-semicolons l = record {
  goes : Goes (more_statements l.depth (within l.depth)) (λ (z : Parsed). statements_of l.all.items.items z) l.rest (statements_at l.depth (within l.depth) l.lexemes);
  some : (x : Statement) × (xs : List Statement) × (l.all.items.items ≡ x ∷ xs);
}

abbrev pub decreases-next_statements-semicolons : goal.decreases-next_statements-semicolons
decreases-next_statements-semicolons l = length l.rest

abbrev pub invariant-next_arms-arms : goal.invariant-next_arms-arms
invariant-next_arms-arms l = record {
  goes : Goes (more_arms l.depth (within l.depth)) (λ (z : Parsed). others_of l.all.items.items z) l.rest (chain_at (more_arms l.depth (within l.depth)) l.lexemes);
  some : (x : CaseArm) × (xs : List CaseArm) × (l.all.items.items ≡ x ∷ xs);
  first : first_of l.all.items.items ≡ of_arm l.fn.first;
}

abbrev pub decreases-next_arms-arms : goal.decreases-next_arms-arms
decreases-next_arms-arms l = length l.rest
