use Rattle.std.proofs.Common.{◌≡◌, ◌≤◌, suc, List, ◌∷◌, length}
use Rattle.pascal_grammar.specs.Productions as p
use Rattle.syntax_tree.specs.Expressions.{Parsed}
use Rattle.syntax_tree.specs.declared.source_tree.declaration.ConstantDeclaration.{ConstantDeclaration}
use Rattle.syntax_tree.specs.source_tree.Declarations.{items_with, of_constant}
use Rattle.type_parser.proofs.parameter_parser.Loop.{Goes}
use Rattle.tp_parser.specs.declaration_parser.Reading.{more_constants, constants_at}
use Rattle.tp_parser.proofs.declaration_parser.list.next_constants.Given as goal

abbrev pub invariant-names : goal.invariant-names
invariant-names l = record {
  goes : Goes (more_constants l.depth) (λ (z : Parsed). items_with of_constant p.next_constant l.all.items z) l.rest (constants_at l.depth l.lexemes);
  some : (x : ConstantDeclaration) × (xs : List ConstantDeclaration) × (l.all.items ≡ x ∷ xs);
  shorter : suc (length l.rest) ≤ length l.lexemes;
}

abbrev pub decreases-names : goal.decreases-names
decreases-names l = length l.rest
