use Rattle.std.proofs.Common.{◌≡◌, deque_len}
use Rattle.source_graph.specs.Walk.{names_of, due}
use Rattle.source_graph.proofs.gathering.next_due.Given as goal

-- what was let go was passed over
abbrev pub invariant-loop-next : goal.invariant-loop-next
invariant-loop-next l = due (names_of l.sources) l.wanted.items ≡ due (names_of l.sources) l.initial.wanted.items

abbrev pub decreases-loop-next : goal.decreases-loop-next
decreases-loop-next l = deque_len l.wanted
