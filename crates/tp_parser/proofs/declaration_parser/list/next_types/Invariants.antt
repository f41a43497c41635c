use Rattle.std.proofs.Common.{◌≡◌, ◌≤◌, suc, List, ◌∷◌, length}
use Rattle.pascal_grammar.specs.Productions as p
use Rattle.syntax_tree.specs.Expressions.{Parsed}
use Rattle.syntax_tree.specs.declared.source_tree.declaration.TypeDeclaration.{TypeDeclaration}
use Rattle.syntax_tree.specs.source_tree.Declarations.{items_with, of_type_declaration}
use Rattle.type_parser.proofs.parameter_parser.Loop.{Goes}
use Rattle.tp_parser.specs.declaration_parser.Reading.{more_types, types_at}
use Rattle.tp_parser.proofs.declaration_parser.list.next_types.Given as goal

abbrev pub invariant-names : goal.invariant-names
invariant-names l = record {
  goes : Goes (more_types l.depth) (λ (z : Parsed). items_with of_type_declaration p.next_type l.all.items z) l.rest (types_at l.depth l.lexemes);
  some : (x : TypeDeclaration) × (xs : List TypeDeclaration) × (l.all.items ≡ x ∷ xs);
  shorter : suc (length l.rest) ≤ length l.lexemes;
}

abbrev pub decreases-names : goal.decreases-names
decreases-names l = length l.rest
