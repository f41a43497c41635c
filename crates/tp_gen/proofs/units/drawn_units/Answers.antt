use Rattle.std.proofs.Common.{◌≡◌, ℕ, ◌*◌, map, ap, ◌∙◌, arith}
use Rattle.std.specs.List.{range_with_len}
use Rattle.tp_gen.specs.Draws.{state_after}
use Rattle.tp_gen.specs.Units.{unit_in}
use Rattle.tp_gen.proofs.DrawLaws.{five_more, one_more}
use Rattle.tp_gen.proofs.units.drawn_units.Goals as goal

pub loop-place-preserved : goal.loop-place-preserved
loop-place-preserved c =
    let before = c.loop-place.invariant in
    let unit = c.drawn_unit.ensures in (
      one_more _ c.args.units c.loop-place.place _ _ _ _ before.0 before.1 unit.unit c.in_ok-push.ensures.items,
      unit.state ∙ ap (λ (state : ℕ). state_after state 5) before.1 ∙ five_more c.args.draws.now c.loop-place.place,
    )

pub returns-clause-all : goal.returns-clause-all
returns-clause-all c =
    let whole : c.loop-place.place ≡ c.args.units = omega (arith, c.loop-place-test.false, c.loop-place.auto.place-end) in
    c.loop-place.invariant.0 ∙ ap (λ (count : ℕ). map (unit_in c.args.draws.now c.args.units) (range_with_len 0 count)) whole

pub returns-clause-state : goal.returns-clause-state
returns-clause-state c =
    let whole : c.loop-place.place ≡ c.args.units = omega (arith, c.loop-place-test.false, c.loop-place.auto.place-end) in
    c.loop-place.invariant.1 ∙ ap (λ (count : ℕ). state_after c.args.draws.now (5 * count)) whole
