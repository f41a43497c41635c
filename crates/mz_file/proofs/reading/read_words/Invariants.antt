use Rattle.std.proofs.Common.{◌≡◌}
use Rattle.mz_file.specs.Words.{words_at}
use Rattle.mz_file.proofs.reading.read_words.Given as goal

abbrev pub invariant-loop-index : goal.invariant-loop-index
invariant-loop-index l = l.words ≡ words_at l.bytes l.place l.index
