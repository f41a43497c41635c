use Rattle.std.proofs.Common.{length}
use Rattle.flat_run.proofs.program.+room_after_vmts.Given as goal

abbrev pub decreases-room_after_vmts : goal.decreases-room_after_vmts
decreases-room_after_vmts l = length l.list.now
