use Rattle.std.proofs.Common.{◌≡◌, ◌++◌, drop, map}
use Rattle.link_layout.specs.Sums.{paragraphs}
use Rattle.link_layout.proofs.layout.in_paragraphs.Given as goal

-- the counts so far and those that are left are all
abbrev pub invariant-loop-size : goal.invariant-loop-size
invariant-loop-size l = l.counts ++ map paragraphs (drop l.size-index l.sizes) ≡ map paragraphs l.sizes
