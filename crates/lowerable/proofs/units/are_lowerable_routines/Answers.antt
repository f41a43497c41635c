use Rattle.std.proofs.Common.{Bool, true, false, sym, ◌∙◌, arith}
use Rattle.typed_tree.specs.declared.units.Routine.{Routine}
use Rattle.lowerable.specs.Lowerable.{is_lowerable_routine}
use Rattle.lowerable.proofs.Lists.{all_turns, all_end}
use Rattle.lowerable.proofs.units.are_lowerable_routines.Goals as goal

pub returns-then-not-is_lowerable_routine : goal.returns-then-not-is_lowerable_routine
returns-then-not-is_lowerable_routine c =
    let test : Routine → Bool = is_lowerable_routine c.args.units.now c.args.unit.now in
    sym (c.loop-number.invariant ∙ all_turns test c.args.unit.now.routines c.loop-number.number false (omega (arith, c.loop-number-test.true, c.requires)) (sym c.is_lowerable_routine.ensures ∙ c.if-not-is_lowerable_routine.true))

pub loop-number-preserved : goal.loop-number-preserved
loop-number-preserved c =
    let test : Routine → Bool = is_lowerable_routine c.args.units.now c.args.unit.now in
    c.loop-number.invariant ∙ all_turns test c.args.unit.now.routines c.loop-number.number true (omega (arith, c.loop-number-test.true, c.requires)) (sym c.is_lowerable_routine.ensures ∙ c.if-not-is_lowerable_routine.false)

pub returns : goal.returns
returns c =
    let test : Routine → Bool = is_lowerable_routine c.args.units.now c.args.unit.now in
    sym (c.loop-number.invariant ∙ all_end test c.args.unit.now.routines c.loop-number.number (omega (arith, c.loop-number-test.false, c.requires)))
