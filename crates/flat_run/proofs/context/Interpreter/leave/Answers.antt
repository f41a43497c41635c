use Rattle.std.proofs.Common.{◌∙◌}
use Rattle.flat_code.specs.Tree.{Leave}
use Rattle.flat_run.specs.Views.{view_frame}
use Rattle.flat_run.specs.Running.{view_program, view_choice, view_run}
use Rattle.flat_code.proofs.Nodes.{run-alone}
use Rattle.flat_run.proofs.context.Interpreter.leave.Goals as goal

pub returns : goal.returns
returns c =
    let e = run-alone (view_program c.args.self.now) (view_choice c.args.self.now) (Leave c.args.loops) (view_frame c.args.f.now) (view_run c.args.state.now) (view_run c.begin.new.self) c.in_ok-begin.ensures in
    e ∙ c.left.ensures (view_run c.begin.new.self)
