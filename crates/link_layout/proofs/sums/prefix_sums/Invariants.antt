use Rattle.std.proofs.Common.{◌≡◌, ◌+◌, ◌++◌, drop}
use Rattle.link_layout.specs.Sums.{total, sums_from}
use Rattle.link_layout.proofs.sums.prefix_sums.Given as goal

-- the places so far and those that are left are all, and so are the sizes
abbrev pub invariant-loop-size : goal.invariant-loop-size
invariant-loop-size l =
    (l.places ++ sums_from l.end (drop l.size-index l.sizes) ≡ sums_from l.from l.sizes) × (l.end + total (drop l.size-index l.sizes) ≡ l.from + total l.sizes)
