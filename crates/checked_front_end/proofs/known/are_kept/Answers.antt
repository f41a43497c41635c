use Rattle.std.proofs.Common.{arith, subst}
use Rattle.std.specs.Prelude.{All}
use Rattle.std.proofs.lemmas.List.{take_all}
use Rattle.std.proofs.lemmas.List.Elements.{All-more}
use Rattle.checked_front_end.specs.Known.{IsKept}
use Rattle.checked_front_end.proofs.known.are_kept.Goals as goal

pub loop-unit-preserved : goal.loop-unit-preserved
loop-unit-preserved c =
    All-more IsKept c.args.units.now c.loop-unit.unit-index c.unit-item.result (omega (arith, c.loop-unit-test.true)) c.loop-unit.invariant (subst IsKept c.unit-item.is c.is_kept.ensures)

pub returns : goal.returns
returns c = subst (All IsKept) (take_all c.loop-unit.unit-index c.args.units.now c.loop-unit-test.false) c.loop-unit.invariant
