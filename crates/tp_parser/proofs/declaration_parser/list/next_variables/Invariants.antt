use Rattle.std.proofs.Common.{◌≡◌, ◌≤◌, suc, List, ◌∷◌, length}
use Rattle.pascal_grammar.specs.Productions as p
use Rattle.syntax_tree.specs.Expressions.{Parsed}
use Rattle.syntax_tree.specs.declared.source_tree.declaration.VariableDeclaration.{VariableDeclaration}
use Rattle.syntax_tree.specs.source_tree.Declarations.{items_with, of_variable}
use Rattle.type_parser.proofs.parameter_parser.Loop.{Goes}
use Rattle.tp_parser.specs.declaration_parser.Reading.{more_variables, variables_at}
use Rattle.tp_parser.proofs.declaration_parser.list.next_variables.Given as goal

abbrev pub invariant-names : goal.invariant-names
invariant-names l = record {
  goes : Goes (more_variables l.depth) (λ (z : Parsed). items_with of_variable p.next_variable l.all.items z) l.rest (variables_at l.depth l.lexemes);
  some : (x : VariableDeclaration) × (xs : List VariableDeclaration) × (l.all.items ≡ x ∷ xs);
  shorter : suc (length l.rest) ≤ length l.lexemes;
}

abbrev pub decreases-names : goal.decreases-names
decreases-names l = length l.rest
