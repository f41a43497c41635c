use Rattle.std.proofs.Common.{◌≡◌, ◌+◌, drop}
use Rattle.smart_linker.specs.Measures.{code_words}
use Rattle.smart_linker.proofs.sizes.code_words.Given as goal

-- those counted and those that are left are all
abbrev pub invariant-loop-number : goal.invariant-loop-number
invariant-loop-number l = l.count + code_words l.marks l.number (drop l.number l.codes) ≡ code_words l.marks 0 l.codes
