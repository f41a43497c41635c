use Rattle.std.proofs.Common.{◌≡◌, Some, sym, ◌∙◌, get_or}
use Rattle.std.proofs.lemmas.List.{drop_more}
use Rattle.common_values.specs.Numerals.{next_stage}
use Rattle.common_values.proofs.NumeralLemmas.{numeral_more, next_bounded}
use Rattle.common_values.proofs.numerals.numeral_of.Goals as goal

pub loop-i-preserved : goal.loop-i-preserved
loop-i-preserved c =
    let rest = drop_more c.args.text.now c.loop-i.i 0 c.loop-i-test.true in
    let next : next_stage c.loop-i.stage (get_or c.args.text.now c.loop-i.i 0) ≡ Some c.in-Some.next = sym c.next_stage.ensures ∙ c.in-Some.is in
    (numeral_more c.loop-i.stage c.in-Some.next _ (get_or c.args.text.now c.loop-i.i 0) _ _ _ rest next c.loop-i.invariant.0, next_bounded c.loop-i.stage c.in-Some.next (get_or c.args.text.now c.loop-i.i 0) next)
