use Rattle.std.proofs.Common.{◌≡◌, ◌+◌, ◌-◌, List, sym, subst}
use Rattle.std.proofs.lemmas.Result.{err_from_is_err_and}
use Rattle.typed_tree.specs.declared.units.Item.{Item}
use Rattle.object_file.specs.file_parts.Parts.{each}
use Rattle.object_file.proofs.file_parts.LoopLaws.{with_front, loop-next, loop-stop, loop-end}
use Rattle.unit_file.specs.interface_file.Reading.{item_at}
use Rattle.unit_file.proofs.interface_file.items.items_in_turn.Goals as goal

pub returns-in_err-item : goal.returns-in_err-item
returns-in_err-item c =
    let p = err_from_is_err_and c.from_residual.result c.from_residual.ensures.1 in
    rw (p.1, p.2) (loop-stop (λ (_ : Unit {0}). (item_at c.args.count)) (λ state _. state) c.in_err-item.field-0.0 c.loop.items c.args.left c.loop.counter tt c.loop.rest.now (each (item_at c.args.count) c.args.left c.args.bytes.now) c.loop-test.true c.in_err-item.ensures c.loop.invariant)

pub loop-preserved : goal.loop-preserved
loop-preserved c =
    let after = loop-next (λ (_ : Unit {0}). (item_at c.args.count)) (λ state _. state) c.loop.items c.args.left c.loop.counter tt c.loop.rest.now c.in_ok-item.item c.in_ok-item.after.now (each (item_at c.args.count) c.args.left c.args.bytes.now) c.loop-test.true c.in_ok-item.ensures c.loop.invariant in
    subst (λ (list : List Item). with_front list (each (item_at c.args.count) (c.args.left - (c.loop.counter + 1)) c.in_ok-item.after.now) ≡ each (item_at c.args.count) c.args.left c.args.bytes.now) (sym c.in_ok-push.ensures.ok) after

pub returns : goal.returns
returns c = loop-end (λ (_ : Unit {0}). (item_at c.args.count)) (λ state _. state) c.loop.items c.args.left c.loop.counter tt c.loop.rest.now (each (item_at c.args.count) c.args.left c.args.bytes.now) c.loop-test.false c.loop.invariant
