use Rattle.x86_table.proofs.Places.{Laid}
use Rattle.x86_table.proofs.assembly.assemble.Given as goal

abbrev pub invariant-loop-number : goal.invariant-loop-number
invariant-loop-number l = Laid l.lines l.bytes l.places l.number
