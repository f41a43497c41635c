use Rattle.codegen_8086.proofs.generate_expressions.Arguments.{args-next}
use Rattle.codegen_8086.proofs.generate_expressions.expressions.push_args.Goals as goal

pub loop-arg-preserved : goal.loop-arg-preserved
loop-arg-preserved c =
    args-next c.args.far c.args.lines.now c.loop-arg.lines c.push_expr.new.lines c.push_plain.new.lines c.args.args.now c.loop-arg.arg-index c.arg-item.result c.arg-item.result c.loop-arg-test.true c.arg-item.is c.loop-arg.invariant c.in_ok-push_expr.ensures c.in_ok-push_plain.ensures
