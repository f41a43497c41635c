use Rattle.std.proofs.Common.{◌≡◌, ◌++◌, drop, map}
use Rattle.link_layout.specs.Layouts.{stub_size}
use Rattle.link_layout.proofs.layout.stub_sizes.Given as goal

-- the sizes so far and those that are left are all
abbrev pub invariant-loop-count : goal.invariant-loop-count
invariant-loop-count l = l.sizes ++ map stub_size (drop l.count-index l.entries) ≡ map stub_size l.entries
