use Rattle.std.proofs.Common.{ℕ}
use Rattle.front_end.specs.source_interfaces.Interfaces.{AreShown, IsDoneOrDeep}
use Rattle.front_end.proofs.source_interfaces.interfaces.interfaces_of.Given as goal

abbrev pub invariant-loop-round : goal.invariant-loop-round
invariant-loop-round l = AreShown l.sources l.have.items × ((k : ℕ) → IsDoneOrDeep l.sources l.have.items l._round k)
