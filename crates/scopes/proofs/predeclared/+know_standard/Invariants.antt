use Rattle.std.proofs.Common.{length}
use Rattle.scopes.proofs.predeclared.+know_standard.Given as goal

abbrev pub decreases-know_standard : goal.decreases-know_standard
decreases-know_standard l = length l.routines.now
