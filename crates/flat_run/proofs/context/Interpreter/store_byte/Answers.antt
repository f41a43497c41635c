use Rattle.std.proofs.Common.{subst, sym}
use Rattle.flat_code.specs.Tree.{expr_size, StoreByte}
use Rattle.flat_code.specs.View.{view_expr}
use Rattle.flat_code.specs.Meaning.{Outcome, run, step_of}
use Rattle.flat_run.specs.Views.{view_frame}
use Rattle.flat_run.specs.Running.{view_program, view_choice, view_run, Flows}
use Rattle.flat_code.proofs.Nodes.{begun-twice, run-alone}
use Rattle.flat_run.proofs.context.Interpreter.store_byte.Goals as goal

pub returns : goal.returns
returns c =
    let program = view_program c.args.self.now in
    let choice = view_choice c.args.self.now in
    let f = view_frame c.args.f.now in
    let s = view_run c.args.state.now in
    let t = view_run c.begin_expr.new.self in
    let step = StoreByte c.args.to (view_expr c.args.value.now) in
    let u = view_run c.store_low_byte.new.state in
    subst (λ (o : Outcome). Flows c.then_next.result u o) (sym (run-alone program choice step f s t (begun-twice 1 (expr_size (view_expr c.args.value.now)) (view_run c.args.state.now) (view_run c.begin.new.self) (view_run c.begin_expr.new.self) c.in_ok-begin.ensures c.in_ok-begin_expr.ensures)))
    (c.then_next.ensures u (step_of program choice (run program choice) step f t) (c.store_low_byte.ensures (run program choice)))
