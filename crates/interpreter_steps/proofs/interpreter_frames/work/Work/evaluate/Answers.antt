use Rattle.interpreter_steps.proofs.interpreter_frames.Framed.{pushed_value}
use Rattle.typed_tree.specs.Expressions.{view_expr}
use Rattle.interpreter_steps.proofs.interpreter_frames.work.Work.evaluate.Goals as goal

pub returns : goal.returns
returns c = λ p s. pushed_value p c.args.self.now c.push.new.self c.args.frame (view_expr c.args.e.now) s c.in_ok-push.ensures.frames c.push.ensures.activation
