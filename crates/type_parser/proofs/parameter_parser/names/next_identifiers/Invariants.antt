use Rattle.std.proofs.Common.{◌≡◌, ◌≤◌, List, ◌∷◌, length}
use Rattle.syntax_tree.specs.declared.identifier.Identifier.{Identifier}
use Rattle.type_parser.proofs.parameter_parser.Going.{NamesGo}
use Rattle.type_parser.proofs.parameter_parser.names.next_identifiers.Given as goal

abbrev pub invariant-commas : goal.invariant-commas
invariant-commas l = record {
  goes : NamesGo l.all.items l.rest l.lexemes;
  some : (x : Identifier) × (xs : List Identifier) × (l.all.items ≡ x ∷ xs);
  shorter : length l.rest ≤ length l.lexemes;
}

abbrev pub decreases-commas : goal.decreases-commas
decreases-commas l = length l.rest
