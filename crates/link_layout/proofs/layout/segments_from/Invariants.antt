use Rattle.std.proofs.Common.{◌≡◌, ◌++◌, drop}
use Rattle.link_layout.specs.Sums.{sums_from}
use Rattle.link_layout.proofs.layout.segments_from.Given as goal

-- the segments so far and those that are left are all
abbrev pub invariant-loop-size : goal.invariant-loop-size
invariant-loop-size l = l.segments ++ sums_from l.next (drop l.size-index l.sizes) ≡ sums_from l.first l.sizes
