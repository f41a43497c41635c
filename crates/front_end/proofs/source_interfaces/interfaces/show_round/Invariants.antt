use Rattle.std.proofs.Common.{ℕ, ◌≤◌, length}
use Rattle.front_end.specs.source_interfaces.Interfaces.{AreShown, IsGrown, IsStep}
use Rattle.front_end.proofs.source_interfaces.interfaces.show_round.Given as goal

-- each source from this place on had its step
abbrev pub invariant-loop-place : goal.invariant-loop-place
invariant-loop-place l =
    (l.place ≤ length l.sources) × AreShown l.sources l.have.items × IsGrown l.initial.have.items l.have.items
    × ((k : ℕ) → l.place ≤ k → IsStep l.sources l.initial.have.items l.have.items k)

abbrev pub decreases-loop-place : goal.decreases-loop-place
decreases-loop-place l = l.place
