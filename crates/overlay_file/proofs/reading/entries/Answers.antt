use Rattle.std.proofs.Common.{◌≡◌, ℕ, ◌+◌, ◌-◌, List, ◌∷◌, ◌++◌, [], sym, subst, arith}
use Rattle.std.proofs.lemmas.Result.{err_from_is_err_and}
use Rattle.overlay_file.specs.declared.overlay.OvrEntry.{OvrEntry}
use Rattle.overlay_file.specs.Index.{entry_end}
use Rattle.overlay_file.specs.Reading.{entries_from}
use Rattle.overlay_file.proofs.LoopLaws.{with_front, entries-next, entries-stop, entries-end}
use Rattle.overlay_file.proofs.reading.entries.Goals as goal

pub returns-in_err-entry : goal.returns-in_err-entry
returns-in_err-entry c =
    let p = err_from_is_err_and c.from_residual.result c.from_residual.ensures.1 in
    rw (p.1, p.2) (entries-stop c.in_err-entry.field-0.0 c.loop.index c.args.count c.loop.counter c.args.bytes.now c.loop.at (entries_from c.args.count c.args.bytes.now 8) c.loop-test.true c.in_err-entry.ensures.read c.loop.invariant.0)

pub loop-preserved : goal.loop-preserved
loop-preserved c =
    let entry = c.in_ok-entry.entry in
    let next = entries-next c.loop.index c.args.count c.loop.counter c.args.bytes.now c.loop.at entry (entries_from c.args.count c.args.bytes.now 8) c.loop-test.true c.in_ok-entry.ensures.read c.loop.invariant.0 in
    let P : List OvrEntry → Type 0 = λ index. with_front index (entries_from (c.args.count - (c.loop.counter + 1)) c.args.bytes.now c.overlay_end-at.result) ≡ entries_from c.args.count c.args.bytes.now 8 in
    let Q : ℕ → Type 0 = λ at. with_front (c.loop.index ++ entry ∷ []) (entries_from (c.args.count - (c.loop.counter + 1)) c.args.bytes.now at) ≡ entries_from c.args.count c.args.bytes.now 8 in
    (subst P (sym c.in_ok-push.ensures.ok) (subst Q (sym c.overlay_end-at.ensures) next), omega (arith, c.overlay_end-at.ensures, c.in_ok-entry.ensures.bound, c.loop.invariant.1))

pub returns : goal.returns
returns c = entries-end c.loop.index c.args.count c.loop.counter c.args.bytes.now c.loop.at (entries_from c.args.count c.args.bytes.now 8) c.loop-test.false c.loop.invariant.0
