use Rattle.std.proofs.Common.{◌≡◌, ◌+◌, drop}
use Rattle.smart_linker.specs.Measures.{words_from}
use Rattle.smart_linker.proofs.sizes.relocations.Given as goal

-- those counted and those that are left are all
abbrev pub invariant-loop-place : goal.invariant-loop-place
invariant-loop-place l =
    l.count + words_from l.parts.units.now l.parts.kernel.now l.place (drop l.place l.marks) ≡ 1 + words_from l.parts.units.now l.parts.kernel.now 0 l.marks
