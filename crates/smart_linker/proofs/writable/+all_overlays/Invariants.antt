use Rattle.std.proofs.Common.{length}
use Rattle.smart_linker.proofs.writable.+all_overlays.Given as goal

abbrev pub decreases-all_overlays : goal.decreases-all_overlays
decreases-all_overlays l = length l.overlays.now
