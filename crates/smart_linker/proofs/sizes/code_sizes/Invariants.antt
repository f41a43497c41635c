use Rattle.std.proofs.Common.{◌≡◌, ◌++◌, drop}
use Rattle.smart_linker.specs.Measures.{code_sizes}
use Rattle.smart_linker.proofs.sizes.code_sizes.Given as goal

-- the sizes so far and those that are left are all
abbrev pub invariant-loop-number : goal.invariant-loop-number
invariant-loop-number l = l.sizes ++ code_sizes l.marks l.number (drop l.number l.codes) ≡ code_sizes l.marks 0 l.codes
