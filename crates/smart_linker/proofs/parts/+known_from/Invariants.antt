use Rattle.std.proofs.Common.{length}
use Rattle.smart_linker.proofs.parts.+known_from.Given as goal

abbrev pub decreases-known_from : goal.decreases-known_from
decreases-known_from l = length l.units.now
