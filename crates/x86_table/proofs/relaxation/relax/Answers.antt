use Rattle.std.proofs.Common.{◌∙◌, ap, arith}
use Rattle.x86_table.specs.Relaxation.{near_jumps, shortened}
use Rattle.x86_table.proofs.Relaxing.{Relaxed, relaxed_first, relaxed_next, relaxed_done}
use Rattle.x86_table.proofs.relaxation.relax.Goals as goal

pub loop-near-init : goal.loop-near-init
loop-near-init c = relaxed_first _ _ _ c.near_jumps-near.ensures c.in_ok-list.ensures

pub loop-near-preserved : goal.loop-near-preserved
loop-near-preserved c =
    relaxed_next _ _ _ _ _ (c.near_jumps-near-in-loop-near.ensures ∙ ap near_jumps c.as_slice-in-loop-near.ensures) (c.in_ok-list-2.ensures ∙ ap shortened c.as_slice-in-loop-near-2.ensures) c.loop-near.invariant

pub returns-clause-shortens : goal.returns-clause-shortens
returns-clause-shortens c =
    let e = c.near_jumps.ensures ∙ ap near_jumps c.as_slice.ensures in
    (relaxed_done _ _ _ (omega arith) c.loop-near.invariant).0

pub returns-clause-reach : goal.returns-clause-reach
returns-clause-reach c =
    let e = c.near_jumps.ensures ∙ ap near_jumps c.as_slice.ensures in
    (relaxed_done _ _ _ (omega arith) c.loop-near.invariant).1

pub returns-clause-far : goal.returns-clause-far
returns-clause-far c =
    let e = c.near_jumps.ensures ∙ ap near_jumps c.as_slice.ensures in
    (relaxed_done _ _ _ (omega arith) c.loop-near.invariant).2
