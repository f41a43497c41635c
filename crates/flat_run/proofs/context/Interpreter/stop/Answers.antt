use Rattle.std.proofs.Common.{ap}
use Rattle.flat_code.specs.Tree.{Error}
use Rattle.flat_run.specs.Views.{view_frame}
use Rattle.flat_run.specs.Running.{view_program, view_choice, view_run, forget}
use Rattle.flat_code.proofs.Nodes.{run-alone}
use Rattle.flat_run.proofs.context.Interpreter.stop.Goals as goal

pub returns : goal.returns
returns c =
    let e = run-alone (view_program c.args.self.now) (view_choice c.args.self.now) (Error c.args.code) (view_frame c.args.f.now) (view_run c.args.state.now) (view_run c.begin.new.self) c.in_ok-begin.ensures in
    ap forget e
