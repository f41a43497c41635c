use Rattle.std.proofs.Common.{◌+◌, ◌*◌, ◌≤◌, length}
use Rattle.tp_parser.proofs.declaration_parser.Items.{DeclarationsGo}
use Rattle.tp_parser.proofs.declaration_parser.routine.+routines.Given as goal

abbrev pub decreases-next_procedure : goal.decreases-next_procedure
decreases-next_procedure l = 8 * l.depth + 1

abbrev pub decreases-next_function : goal.decreases-next_function
decreases-next_function l = 8 * l.depth + 1

abbrev pub decreases-next_constructor : goal.decreases-next_constructor
decreases-next_constructor l = 8 * l.depth + 1

abbrev pub decreases-next_destructor : goal.decreases-next_destructor
decreases-next_destructor l = 8 * l.depth + 1

abbrev pub decreases-next_declaration : goal.decreases-next_declaration
decreases-next_declaration l = 8 * l.depth + 2

abbrev pub decreases-next_declarations : goal.decreases-next_declarations
decreases-next_declarations l = 8 * l.depth + 3

abbrev pub decreases-next_block : goal.decreases-next_block
decreases-next_block l = 8 * l.depth + 4

abbrev pub decreases-next_body : goal.decreases-next_body
decreases-next_body l = 8 * l.depth + 5

abbrev pub invariant-next_declarations-declarations : goal.invariant-next_declarations-declarations
invariant-next_declarations-declarations l = record {
  goes : DeclarationsGo l.depth l.all.items l.rest l.lexemes;
  shorter : length l.rest ≤ length l.lexemes;
}

abbrev pub decreases-next_declarations-declarations : goal.decreases-next_declarations-declarations
decreases-next_declarations-declarations l = length l.rest
