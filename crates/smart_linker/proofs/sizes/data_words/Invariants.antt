use Rattle.std.proofs.Common.{◌≡◌, ◌+◌, drop}
use Rattle.smart_linker.specs.Measures.{data_words}
use Rattle.smart_linker.proofs.sizes.data_words.Given as goal

-- those counted and those that are left are all
abbrev pub invariant-loop-number : goal.invariant-loop-number
invariant-loop-number l = l.count + data_words l.marks l.number (drop l.number l.list) ≡ data_words l.marks 0 l.list
