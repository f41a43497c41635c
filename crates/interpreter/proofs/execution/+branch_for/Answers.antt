use Rattle.std.proofs.Common.{◌≡◌, true, false, refl, sym, ap, ◌∙◌, w32}
use Rattle.std.specs.List.{list_any}
use Rattle.std.proofs.lemmas.Int.{to_z-of_z}
use Rattle.tp_meaning.specs.Statements.{covers}
use Rattle.interpreter_steps.proofs.interpreter_frames.Lists.{nil_of, cons_of}
use Rattle.interpreter.proofs.execution.+branch_for.Goals as goal

pub returns-in-empty : goal.returns-in-empty
returns-in-empty t c = λ p again f. rw (nil_of c.args.arms.now c.in-empty.len_below) refl

pub returns-then-covers : goal.returns-then-covers
returns-then-covers t c =
    let is : list_any (covers c.args.z) c.arm-item.result.labels.items ≡ true = sym (rw (to_z-of_z w32 c.args.z c.ranges.z, c.as_slice.ensures.value) at c.covers.ensures) ∙ c.if-covers.true in
    λ p again f. rw (cons_of c.args.arms.now c.arm-item.result c.in-len1-up.len_at_least c.arm-item.is, is) refl

pub returns-else-covers : goal.returns-else-covers
returns-else-covers t c =
    let is : list_any (covers c.args.z) c.arm-item.result.labels.items ≡ false = sym (rw (to_z-of_z w32 c.args.z c.ranges.z, c.as_slice.ensures.value) at c.covers.ensures) ∙ c.if-covers.false in
    λ p again f. rw (cons_of c.args.arms.now c.arm-item.result c.in-len1-up.len_at_least c.arm-item.is, is) (rw (to_z-of_z w32 c.args.z c.ranges.z) at (c.branch_for.ensures p again f))
