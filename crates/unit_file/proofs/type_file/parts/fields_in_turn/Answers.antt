use Rattle.std.proofs.Common.{◌≡◌, ◌+◌, ◌-◌, List, sym, subst}
use Rattle.std.proofs.lemmas.Result.{err_from_is_err_and}
use Rattle.type_layout.specs.declared.definitions.Field.{Field}
use Rattle.object_file.specs.file_parts.Parts.{each}
use Rattle.object_file.proofs.file_parts.LoopLaws.{with_front, loop-next, loop-stop, loop-end}
use Rattle.unit_file.specs.type_file.Reading.{field_at}
use Rattle.unit_file.proofs.type_file.parts.fields_in_turn.Goals as goal

pub returns-in_err-field : goal.returns-in_err-field
returns-in_err-field c =
    let p = err_from_is_err_and c.from_residual.result c.from_residual.ensures.1 in
    rw (p.1, p.2) (loop-stop (λ (_ : Unit {0}). (field_at c.args.count)) (λ state _. state) c.in_err-field.field-0.0 c.loop.fields c.args.left c.loop.counter tt c.loop.rest.now (each (field_at c.args.count) c.args.left c.args.bytes.now) c.loop-test.true c.in_err-field.ensures c.loop.invariant)

pub loop-preserved : goal.loop-preserved
loop-preserved c =
    let after = loop-next (λ (_ : Unit {0}). (field_at c.args.count)) (λ state _. state) c.loop.fields c.args.left c.loop.counter tt c.loop.rest.now c.in_ok-field.field c.in_ok-field.after.now (each (field_at c.args.count) c.args.left c.args.bytes.now) c.loop-test.true c.in_ok-field.ensures c.loop.invariant in
    subst (λ (list : List Field). with_front list (each (field_at c.args.count) (c.args.left - (c.loop.counter + 1)) c.in_ok-field.after.now) ≡ each (field_at c.args.count) c.args.left c.args.bytes.now) (sym c.in_ok-push.ensures.ok) after

pub returns : goal.returns
returns c = loop-end (λ (_ : Unit {0}). (field_at c.args.count)) (λ state _. state) c.loop.fields c.args.left c.loop.counter tt c.loop.rest.now (each (field_at c.args.count) c.args.left c.args.bytes.now) c.loop-test.false c.loop.invariant
