use Rattle.std.proofs.Common.{◌≡◌}
use Rattle.mz_file.specs.Words.{fars_at}
use Rattle.mz_file.proofs.reading.read_fars.Given as goal

abbrev pub invariant-loop-index : goal.invariant-loop-index
invariant-loop-index l = l.fars ≡ fars_at l.bytes l.place l.index
