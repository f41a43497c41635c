use Rattle.std.proofs.Common.{Bool, true, false, sym, ap, ◌∙◌, Option, arith}
use Rattle.std.specs.Option.{option_map_or}
use Rattle.type_layout.specs.declared.definitions.TypeDef.{TypeDef}
use Rattle.lowerable.specs.Farness.{has_far_methods}
use Rattle.lowerable.proofs.Lists.{all_turns, all_end}
use Rattle.lowerable.proofs.units.have_far_methods.Goals as goal

pub returns-then-not-has_far_methods : goal.returns-then-not-has_far_methods
returns-then-not-has_far_methods c =
    let test : TypeDef → Bool = has_far_methods c.args.units.now c.args.unit.now in
    sym (c.loop-number.invariant ∙ all_turns test c.args.unit.now.types.types c.loop-number.number false (omega (arith, c.loop-number-test.true, c.count-number-end.ensures.value))
    (ap (λ (o : Option TypeDef). option_map_or test o false) c.get.ensures ∙ sym c.has_far_methods.ensures ∙ c.if-not-has_far_methods.true))

pub loop-number-preserved : goal.loop-number-preserved
loop-number-preserved c =
    let test : TypeDef → Bool = has_far_methods c.args.units.now c.args.unit.now in
    c.loop-number.invariant ∙ all_turns test c.args.unit.now.types.types c.loop-number.number true (omega (arith, c.loop-number-test.true, c.count-number-end.ensures.value))
    (ap (λ (o : Option TypeDef). option_map_or test o false) c.get.ensures ∙ sym c.has_far_methods.ensures ∙ c.if-not-has_far_methods.false)

pub returns : goal.returns
returns c =
    let test : TypeDef → Bool = has_far_methods c.args.units.now c.args.unit.now in
    sym (c.loop-number.invariant ∙ all_end test c.args.unit.now.types.types c.loop-number.number (omega (arith, c.loop-number-test.false, c.count-number-end.ensures.value)))
