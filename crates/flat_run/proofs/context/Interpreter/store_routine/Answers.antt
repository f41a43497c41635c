use Rattle.std.proofs.Common.{subst, sym}
use Rattle.flat_code.specs.Tree.{StoreRoutine}
use Rattle.flat_code.specs.Meaning.{Outcome, run, step_of}
use Rattle.flat_run.specs.Views.{view_frame}
use Rattle.flat_run.specs.Running.{view_program, view_choice, view_run, Flows}
use Rattle.flat_code.proofs.Nodes.{run-alone}
use Rattle.flat_run.proofs.context.Interpreter.store_routine.Goals as goal

pub returns : goal.returns
returns c =
    let program = view_program c.args.self.now in
    let choice = view_choice c.args.self.now in
    let f = view_frame c.args.f.now in
    let s = view_run c.args.state.now in
    let t = view_run c.begin.new.self in
    let step = StoreRoutine c.args.to c.args.routine.unit c.args.routine.number in
    let u = view_run c.store_pointer.new.state in
    subst (λ (o : Outcome). Flows c.then_next.result u o) (sym (run-alone program choice step f s t c.in_ok-begin.ensures))
    (c.then_next.ensures u (step_of program choice (run program choice) step f t) (c.store_pointer.ensures (run program choice)))
