use Rattle.std.proofs.Common.{◌≡◌, ℕ, ◌+◌, ◌-◌, List, sym, subst}
use Rattle.std.proofs.lemmas.Result.{err_from_is_err_and}
use Rattle.object_file.specs.file_parts.Parts.{Reader, each, name_at}
use Rattle.object_file.proofs.file_parts.LoopLaws.{with_front, loop-next, loop-stop, loop-end}
use Rattle.unit_file.proofs.reading.names_in_turn.Goals as goal

abbrev read : Unit {0} → Reader (List ℕ)
read _ = name_at

abbrev next : Unit {0} → (List ℕ) → Unit {0}
next state _ = state

pub returns-in_err-name : goal.returns-in_err-name
returns-in_err-name c =
    let p = err_from_is_err_and c.from_residual.result c.from_residual.ensures.1 in
    rw (p.1, p.2) (loop-stop read next c.in_err-name.field-0.0 c.loop.names c.args.left c.loop.counter tt c.loop.rest.now (each name_at c.args.left c.args.bytes.now) c.loop-test.true c.in_err-name.ensures c.loop.invariant)

pub loop-preserved : goal.loop-preserved
loop-preserved c =
    let after = loop-next read next c.loop.names c.args.left c.loop.counter tt c.loop.rest.now c.in_ok-name.name c.in_ok-name.after.now (each name_at c.args.left c.args.bytes.now) c.loop-test.true c.in_ok-name.ensures c.loop.invariant in
    subst (λ (list : List ((List ℕ))). with_front list (each name_at (c.args.left - (c.loop.counter + 1)) c.in_ok-name.after.now) ≡ each name_at c.args.left c.args.bytes.now) (sym c.in_ok-push.ensures.ok) after

pub returns : goal.returns
returns c = loop-end read next c.loop.names c.args.left c.loop.counter tt c.loop.rest.now (each name_at c.args.left c.args.bytes.now) c.loop-test.false c.loop.invariant
