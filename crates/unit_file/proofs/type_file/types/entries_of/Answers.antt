use Rattle.std.proofs.lemmas.Result.{err_from_is_err_and}
use Rattle.unit_file.specs.type_file.Text.{empty_table}
use Rattle.unit_file.proofs.type_file.TableLoop.{finished, table-next, table-stop, table-end}
use Rattle.unit_file.proofs.type_file.types.entries_of.Goals as goal

pub returns-in_err-rest : goal.returns-in_err-rest
returns-in_err-rest c =
    let p = err_from_is_err_and c.from_residual.result c.from_residual.ensures.1 in
    rw (p.1, p.2) (table-stop c.in_err-rest.field-0.0 c.args.count c.loop.counter c.loop.types c.loop.rest.now (finished c.args.count c.args.count empty_table c.args.bytes.now) c.loop-test.true c.in_err-rest.ensures c.loop.invariant)

pub loop-preserved : goal.loop-preserved
loop-preserved c = table-next c.args.count c.loop.counter c.loop.types c.add_entry.new.types c.loop.rest.now c.in_ok-rest.rest.now (finished c.args.count c.args.count empty_table c.args.bytes.now) c.loop-test.true c.in_ok-rest.ensures c.loop.invariant

pub returns : goal.returns
returns c = table-end c.args.count c.loop.counter c.loop.types c.loop.rest.now (finished c.args.count c.args.count empty_table c.args.bytes.now) c.loop-test.false c.loop.invariant
