use Rattle.std.proofs.Common.{◌≡◌, ◌++◌, drop}
use Rattle.mz_file.specs.Words.{bytes_of_words}
use Rattle.link_layout.proofs.stub_bytes.push_words.Given as goal

-- what is written and what is left are all
abbrev pub invariant-loop-word : goal.invariant-loop-word
invariant-loop-word l = l.bytes ++ bytes_of_words (drop l.word-index l.words) ≡ l.initial.bytes ++ bytes_of_words l.words
