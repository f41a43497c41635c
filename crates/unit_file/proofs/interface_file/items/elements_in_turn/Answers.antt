use Rattle.std.proofs.Common.{◌≡◌, ℕ, ◌+◌, ◌-◌, List, [], ◌∷◌, ◌++◌, sym, subst}
use Rattle.std.specs.Prelude.{nat_le}
use Rattle.std.proofs.lemmas.Result.{err_from_is_err_and}
use Rattle.object_file.specs.file_parts.Parts.{Reader, ruled, byte_at, in_turn}
use Rattle.object_file.proofs.file_parts.LoopLaws.{with_front, loop-next, loop-stop, loop-end}
use Rattle.unit_file.proofs.interface_file.items.elements_in_turn.Goals as goal

abbrev read : ℕ → Reader ℕ
read least = ruled (nat_le least) byte_at

abbrev next : ℕ → ℕ → ℕ
next _ element = element + 1

pub returns-in_err-element : goal.returns-in_err-element
returns-in_err-element c =
    let p = err_from_is_err_and c.from_residual.result c.from_residual.ensures.1 in
    rw (p.1, p.2) (loop-stop read next c.in_err-element.field-0.0 c.loop.elements c.args.left c.loop.counter c.loop.least c.loop.rest.now (in_turn read next c.args.left 0 c.args.bytes.now) c.loop-test.true c.in_err-element.ensures c.loop.invariant)

pub loop-preserved : goal.loop-preserved
loop-preserved c =
    let after = loop-next read next c.loop.elements c.args.left c.loop.counter c.loop.least c.loop.rest.now c.in_ok-element.element c.in_ok-element.after.now (in_turn read next c.args.left 0 c.args.bytes.now) c.loop-test.true c.in_ok-element.ensures c.loop.invariant in
    let P : List ℕ → ℕ → Type 0 = λ elements least. with_front elements (in_turn read next (c.args.left - (c.loop.counter + 1)) least c.in_ok-element.after.now) ≡ in_turn read next c.args.left 0 c.args.bytes.now in
    subst (λ (elements : List ℕ). P elements (c.from-least.result + 1)) (sym c.in_ok-push.ensures.ok) (subst (λ (least : ℕ). P (c.loop.elements ++ c.in_ok-element.element ∷ []) (least + 1)) (sym c.from-least.ensures) after)

pub returns : goal.returns
returns c = loop-end read next c.loop.elements c.args.left c.loop.counter c.loop.least c.loop.rest.now (in_turn read next c.args.left 0 c.args.bytes.now) c.loop-test.false c.loop.invariant
