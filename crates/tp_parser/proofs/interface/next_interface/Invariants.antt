use Rattle.std.proofs.Common.{◌≤◌, length}
use Rattle.tp_parser.proofs.Listing.{InterfaceGoes}
use Rattle.tp_parser.proofs.interface.next_interface.Given as goal

abbrev pub invariant-declarations : goal.invariant-declarations
invariant-declarations l = record {
  goes : InterfaceGoes l.depth l.all.items l.rest l.lexemes;
  shorter : length l.rest ≤ length l.lexemes;
}

abbrev pub decreases-declarations : goal.decreases-declarations
decreases-declarations l = length l.rest
