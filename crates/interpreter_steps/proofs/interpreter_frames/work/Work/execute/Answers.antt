use Rattle.std.proofs.Common.{ap}
use Rattle.typed_tree.specs.Statements.{view_stmt}
use Rattle.interpreter_effects.specs.activations.Views.{view_activation}
use Rattle.interpreter_steps.proofs.interpreter_frames.Framed.{pushed_in}
use Rattle.interpreter_steps.proofs.interpreter_frames.work.Work.execute.Goals as goal

pub returns : goal.returns
returns c = λ p s. pushed_in p c.args.self.now.frames.items c.push.new.self (view_activation c.args.self.now.f) c.args.frame (view_stmt c.args.one.now) s c.in_ok-push.ensures.frames (ap view_activation c.push.ensures.activation)
