use Rattle.x86_table.proofs.Relaxing.{Relaxed}
use Rattle.x86_table.proofs.relaxation.relax.Given as goal

abbrev pub invariant-loop-near : goal.invariant-loop-near
invariant-loop-near l = Relaxed l.lines l.list l.near

abbrev pub decreases-loop-near : goal.decreases-loop-near
decreases-loop-near l = l.near
