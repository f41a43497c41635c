use Rattle.std.proofs.Common.{length}
use Rattle.flat_run.proofs.program.+room_after_units.Given as goal

abbrev pub decreases-room_after_units : goal.decreases-room_after_units
decreases-room_after_units l = length l.units.now
