use Rattle.std.proofs.Common.{◌≡◌, ℕ, ◌+◌, ◌-◌, List, [], ◌∷◌, ◌++◌, sym, subst}
use Rattle.std.proofs.lemmas.Result.{err_from_is_err_and}
use Rattle.object_file.specs.declared.object_unit.object.Ref.{Ref}
use Rattle.object_file.specs.file_parts.Parts.{in_turn}
use Rattle.object_file.proofs.file_parts.LoopLaws.{with_front, loop-next, loop-stop, loop-end}
use Rattle.object_file.specs.Text.{ref_end}
use Rattle.object_file.specs.Reading.{ref_at}
use Rattle.object_file.proofs.reading.refs_in_turn.Goals as goal

pub returns-in_err-one : goal.returns-in_err-one
returns-in_err-one c =
    let p = err_from_is_err_and c.from_residual.result c.from_residual.ensures.1 in
    rw (p.1, p.2) (loop-stop (ref_at c.args.size) (λ _ one. ref_end one) c.in_err-one.field-0.0 c.loop.refs c.args.count c.loop.counter c.loop.least c.loop.rest.now (in_turn (ref_at c.args.size) (λ _ one. ref_end one) c.args.count 0 c.args.bytes.now) c.loop-test.true c.in_err-one.ensures c.loop.invariant)

pub loop-preserved : goal.loop-preserved
loop-preserved c =
    let next = loop-next (ref_at c.args.size) (λ _ one. ref_end one) c.loop.refs c.args.count c.loop.counter c.loop.least c.loop.rest.now c.in_ok-one.one c.in_ok-one.after.now (in_turn (ref_at c.args.size) (λ _ one. ref_end one) c.args.count 0 c.args.bytes.now) c.loop-test.true c.in_ok-one.ensures c.loop.invariant in
    let P : List Ref → ℕ → Type 0 = λ refs least. with_front refs (in_turn (ref_at c.args.size) (λ _ one. ref_end one) (c.args.count - (c.loop.counter + 1)) least c.in_ok-one.after.now) ≡ in_turn (ref_at c.args.size) (λ _ one. ref_end one) c.args.count 0 c.args.bytes.now in
    subst (λ (refs : List Ref). P refs c.ref_end-least.result) (sym c.in_ok-push.ensures.ok) (subst (λ (least : ℕ). P (c.loop.refs ++ c.in_ok-one.one ∷ []) least) (sym c.ref_end-least.ensures) next)

pub returns : goal.returns
returns c = loop-end (ref_at c.args.size) (λ _ one. ref_end one) c.loop.refs c.args.count c.loop.counter c.loop.least c.loop.rest.now (in_turn (ref_at c.args.size) (λ _ one. ref_end one) c.args.count 0 c.args.bytes.now) c.loop-test.false c.loop.invariant
