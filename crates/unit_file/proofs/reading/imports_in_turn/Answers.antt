use Rattle.std.proofs.Common.{◌≡◌, ◌+◌, ◌-◌, List, sym, subst}
use Rattle.std.proofs.lemmas.Result.{err_from_is_err_and}
use Rattle.unit_interface.specs.declared.interfaces.Interface.{Interface}
use Rattle.object_file.specs.file_parts.Parts.{Reader, each}
use Rattle.object_file.proofs.file_parts.LoopLaws.{with_front, loop-next, loop-stop, loop-end}
use Rattle.unit_file.specs.interface_file.Reading.{interface_at}
use Rattle.unit_file.proofs.reading.imports_in_turn.Goals as goal

abbrev read : Unit {0} → Reader Interface
read _ = interface_at

abbrev next : Unit {0} → Interface → Unit {0}
next state _ = state

pub returns-in_err-import : goal.returns-in_err-import
returns-in_err-import c =
    let p = err_from_is_err_and c.from_residual.result c.from_residual.ensures.1 in
    rw (p.1, p.2) (loop-stop read next c.in_err-import.field-0.0 c.loop.imports c.args.left c.loop.counter tt c.loop.rest.now (each interface_at c.args.left c.args.bytes.now) c.loop-test.true c.in_err-import.ensures.exact c.loop.invariant)

pub loop-preserved : goal.loop-preserved
loop-preserved c =
    let after = loop-next read next c.loop.imports c.args.left c.loop.counter tt c.loop.rest.now c.in_ok-import.import c.in_ok-import.after.now (each interface_at c.args.left c.args.bytes.now) c.loop-test.true c.in_ok-import.ensures.exact c.loop.invariant in
    subst (λ (list : List (Interface)). with_front list (each interface_at (c.args.left - (c.loop.counter + 1)) c.in_ok-import.after.now) ≡ each interface_at c.args.left c.args.bytes.now) (sym c.in_ok-push.ensures.ok) after

pub returns : goal.returns
returns c = loop-end read next c.loop.imports c.args.left c.loop.counter tt c.loop.rest.now (each interface_at c.args.left c.args.bytes.now) c.loop-test.false c.loop.invariant
