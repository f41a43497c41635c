use Rattle.std.proofs.Common.{◌≡◌, true, false, sym, ap, ◌∙◌}
use Rattle.std.specs.Prelude.{nat_eq}
use Rattle.std.specs.List.{starts_with}
use Rattle.std.proofs.lemmas.List.{drop_more}
use Rattle.common_values.proofs.StringLemmas.{place_more, place_here, position-some}
use Rattle.common_values.proofs.strings.position_of.Goals as goal

pub loop-i-preserved : goal.loop-i-preserved
loop-i-preserved c =
    let rest = drop_more c.args.text.now c.loop-i.i 0 c.loop-i-test.true in
    let test : starts_with nat_eq c.behind.result.now c.args.part.now ≡ false = sym c.starts_with.ensures.value ∙ c.if-starts_with.false in
    place_more _ _ _ _ _ _ rest (ap (λ l. starts_with nat_eq l c.args.part.now) (sym c.behind.ensures) ∙ test) c.loop-i.invariant

pub returns-then-starts_with : goal.returns-then-starts_with
returns-then-starts_with c =
    let rest = drop_more c.args.text.now c.loop-i.i 0 c.loop-i-test.true in
    let test : starts_with nat_eq c.behind.result.now c.args.part.now ≡ true = sym c.starts_with.ensures.value ∙ c.if-starts_with.true in
    place_here _ _ _ _ _ _ rest (ap (λ l. starts_with nat_eq l c.args.part.now) (sym c.behind.ensures) ∙ test) c.loop-i.invariant ∙ sym (position-some c.args.part.now c.args.text.now (sym c.is_empty.ensures ∙ c.if-is_empty.false))
