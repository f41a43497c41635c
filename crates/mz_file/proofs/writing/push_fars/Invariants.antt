use Rattle.std.proofs.Common.{◌≡◌, ◌++◌, drop}
use Rattle.mz_file.specs.Words.{bytes_of_words, words_of_fars}
use Rattle.mz_file.proofs.writing.push_fars.Given as goal

-- what is written and what is left are all
abbrev pub invariant-loop-far : goal.invariant-loop-far
invariant-loop-far l = l.bytes ++ bytes_of_words (words_of_fars (drop l.far-index l.fars)) ≡ l.initial.bytes ++ bytes_of_words (words_of_fars l.fars)
