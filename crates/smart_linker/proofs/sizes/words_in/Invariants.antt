use Rattle.std.proofs.Common.{◌≡◌, ◌+◌, drop}
use Rattle.smart_linker.specs.Measures.{words_in}
use Rattle.smart_linker.proofs.sizes.words_in.Given as goal

-- those counted and those that are left are all
abbrev pub invariant-loop-one : goal.invariant-loop-one
invariant-loop-one l = l.count + words_in (drop l.one-index l.refs) ≡ words_in l.refs
