use Rattle.dos_runner.specs.opened_program.Stubs.{AreTraps}
use Rattle.dos_runner.proofs.opened_program.stubs.are_traps.Given as goal

abbrev pub invariant-loop-entry : goal.invariant-loop-entry
invariant-loop-entry l = AreTraps l.image l.place l.entry
