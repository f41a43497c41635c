use Rattle.std.proofs.Common.{◌≡◌, ◌++◌, drop}
use Rattle.smart_linker.specs.Measures.{entry_counts}
use Rattle.smart_linker.proofs.sizes.entry_counts.Given as goal

-- the counts so far and those that are left are all
abbrev pub invariant-loop-number : goal.invariant-loop-number
invariant-loop-number l = l.counts ++ entry_counts l.marks l.number (drop l.number l.codes) ≡ entry_counts l.marks 0 l.codes
