use mir.Val.{SFits}
use mir.Syntax.{w32}
use Rattle.std.proofs.Common.{rules}
use Rattle.std.proofs.lemmas.Int.{to_z-of_z}
use Rattle.std.proofs.Common.{◌≡◌, ◌+◌, ◌≤◌, ◌<◌, ℕ, length, ap, arith}
use Rattle.x86_table.specs.Lines.{code_size, label_place}
use Rattle.x86_table.specs.Labels.{place_in}
use Rattle.x86_table.proofs.Places.{Laid, laid_line, named_line, label_within}
use Rattle.x86_table.proofs.assembly.assemble.Goals as goal

pub too_far-requires-clause-labels : goal.too_far-requires-clause-labels
too_far-requires-clause-labels c = λ q.
    let e = ap (λ f. f q) c.in_ok-labels.ensures in
    omega (arith, label_within c.args.lines.now q)

pub push_line-requires-clause-labels : goal.push_line-requires-clause-labels
push_line-requires-clause-labels c = λ q.
    let e = ap (λ f. f q) c.in_ok-labels.ensures in
    omega (arith, label_within c.args.lines.now q)

pub returns-in-Some-clause-too_far : goal.returns-in-Some-clause-too_far
returns-in-Some-clause-too_far c =
    let e = c.in_ok-labels.ensures in
    let f = rw (e, c.len-place.ensures) at c.in-Some.ensures in
    let s : SFits w32 c.in-Some.distance = search rules in
    rw (to_z-of_z w32 c.in-Some.distance s) (named_line _ _ _ _ _ _ (omega arith) f c.loop-number.invariant)

pub loop-number-preserved : goal.loop-number-preserved
loop-number-preserved c =
    let e = c.in_ok-labels.ensures in
    let h = rw (e, c.len-place.ensures) at c.in_ok-push_line.ensures in
    let r = rw (e, c.len-place.ensures) at c.in_default.ensures in
    let k = rw c.len-place.ensures at c.in_ok-push.ensures.ok in
    rw (h, k) (laid_line _ _ _ _ _ (omega arith) r c.loop-number.invariant)
