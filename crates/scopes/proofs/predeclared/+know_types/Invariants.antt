use Rattle.std.proofs.Common.{length}
use Rattle.scopes.proofs.predeclared.+know_types.Given as goal

abbrev pub decreases-know_types : goal.decreases-know_types
decreases-know_types l = length l.names.now
