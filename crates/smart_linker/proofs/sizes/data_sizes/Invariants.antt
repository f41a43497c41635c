use Rattle.std.proofs.Common.{◌≡◌, ◌++◌, drop}
use Rattle.smart_linker.specs.Measures.{data_sizes}
use Rattle.smart_linker.proofs.sizes.data_sizes.Given as goal

-- the sizes so far and those that are left are all
abbrev pub invariant-loop-number : goal.invariant-loop-number
invariant-loop-number l = l.sizes ++ data_sizes l.marks l.number (drop l.number l.list) ≡ data_sizes l.marks 0 l.list
