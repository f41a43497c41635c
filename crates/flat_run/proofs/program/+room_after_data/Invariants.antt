use Rattle.std.proofs.Common.{length}
use Rattle.flat_run.proofs.program.+room_after_data.Given as goal

abbrev pub decreases-room_after_data : goal.decreases-room_after_data
decreases-room_after_data l = length l.list.now
