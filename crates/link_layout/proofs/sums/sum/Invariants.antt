use Rattle.std.proofs.Common.{◌≡◌, ◌+◌, drop}
use Rattle.link_layout.specs.Sums.{total}
use Rattle.link_layout.proofs.sums.sum.Given as goal

-- what is summed up and what is left are all
abbrev pub invariant-loop-size : goal.invariant-loop-size
invariant-loop-size l = l.end + total (drop l.size-index l.sizes) ≡ total l.sizes
