use Rattle.std.proofs.Common.{◌≤◌, length}
use Rattle.type_parser.proofs.parameter_parser.Going.{MethodsGo}
use Rattle.type_parser.proofs.parameter_parser.method.next_methods.Given as goal

abbrev pub invariant-methods : goal.invariant-methods
invariant-methods l = record {
  goes : MethodsGo l.depth l.all.items l.rest l.lexemes;
  shorter : length l.rest ≤ length l.lexemes;
}

abbrev pub decreases-methods : goal.decreases-methods
decreases-methods l = length l.rest
