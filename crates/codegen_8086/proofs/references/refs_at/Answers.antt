use Rattle.std.proofs.Common.{◌∙◌}
use Rattle.codegen_8086.specs.object_code.References.{refs_at}
use Rattle.codegen_8086.proofs.Refs.{refs-some, refs-none}
use Rattle.codegen_8086.proofs.references.refs_at.Goals.{in-Some+in_ok-ref_of+in_ok-push, in_default}
use Rattle.codegen_8086.proofs.references.refs_at.Goals as goal

pub loop-number-preserved : goal.loop-number-preserved
loop-number-preserved c =
    let names = c.args.names.now in
    let places = c.args.places.now in
    let lines = c.args.lines.now in
    let n = c.loop-number.number in
    let whole = refs_at names places lines in
    elim c.match-line.branch [
      | in-Some+in_ok-ref_of+in_ok-push w ↦ refs-some names places lines n _ w.in-Some.target w.in_ok-ref_of.field-0 whole c.loop-number.refs c.match-line.refs c.requires.placed c.loop-number-test.true w.in-Some.is w.in_ok-ref_of.ensures c.loop-number.invariant (w.refs-is ∙ w.in_ok-push.ensures.ok)
      | in_default w ↦ refs-none names places lines n _ whole c.loop-number.refs c.match-line.refs c.requires.placed c.loop-number-test.true w.in_default.is c.loop-number.invariant w.refs-is
    ]
