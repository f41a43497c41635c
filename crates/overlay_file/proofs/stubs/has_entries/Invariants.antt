use Rattle.std.proofs.Common.{ℕ, ◌<◌}
use Rattle.overlay_file.specs.Stubs.{AreEntries}
use Rattle.overlay_file.proofs.stubs.has_entries.Given as goal

abbrev pub invariant-loop-entry : goal.invariant-loop-entry
invariant-loop-entry l = AreEntries l.machine.memory l.segment l.load l.entry
