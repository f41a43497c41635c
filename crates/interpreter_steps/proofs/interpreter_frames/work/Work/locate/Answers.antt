use Rattle.interpreter_steps.proofs.interpreter_frames.Framed.{pushed_place}
use Rattle.typed_tree.specs.Expressions.{view_place}
use Rattle.interpreter_steps.proofs.interpreter_frames.work.Work.locate.Goals as goal

pub returns : goal.returns
returns c = λ p s. pushed_place p c.args.self.now c.push.new.self c.args.frame (view_place c.args.e.now) s c.in_ok-push.ensures.frames c.push.ensures.activation
