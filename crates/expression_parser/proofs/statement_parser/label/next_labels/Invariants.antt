use Rattle.std.proofs.Common.{◌≡◌, List, ◌∷◌, length}
use Rattle.syntax_tree.specs.declared.statement.CaseLabel.{CaseLabel}
use Rattle.syntax_tree.specs.Expressions.{Parsed}
use Rattle.syntax_tree.specs.Statements.{of_label, first_label, other_labels}
use Rattle.expression_parser.specs.statement_parser.Chains.{chain_at}
use Rattle.expression_parser.specs.statement_parser.Reading.{labels}
use Rattle.expression_parser.proofs.statement_parser.Loop.{Goes}
use Rattle.expression_parser.proofs.statement_parser.label.next_labels.Given as goal

abbrev pub invariant-commas : goal.invariant-commas
invariant-commas l = record {
  goes : Goes (labels l.depth) (λ (z : Parsed). other_labels l.all.items.items z) l.rest (chain_at (labels l.depth) l.lexemes);
  some : (x : CaseLabel) × (xs : List CaseLabel) × (l.all.items.items ≡ x ∷ xs);
  first : first_label l.all.items.items ≡ of_label l.fn.first;
}

abbrev pub decreases-commas : goal.decreases-commas
decreases-commas l = length l.rest
