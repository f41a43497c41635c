use Rattle.std.proofs.Common.{◌≡◌, ◌≤◌, List, ◌∷◌, length}
use Rattle.syntax_tree.specs.declared.type_tree.parameter.ParameterGroup.{ParameterGroup}
use Rattle.type_parser.proofs.parameter_parser.Going.{GroupsGo}
use Rattle.type_parser.proofs.parameter_parser.parameter.groups.Given as goal

abbrev pub invariant-semicolons : goal.invariant-semicolons
invariant-semicolons l = record {
  goes : GroupsGo l.all.items l.rest l.lexemes;
  some : (x : ParameterGroup) × (xs : List ParameterGroup) × (l.all.items ≡ x ∷ xs);
  shorter : length l.rest ≤ length l.lexemes;
}

abbrev pub decreases-semicolons : goal.decreases-semicolons
decreases-semicolons l = length l.rest
