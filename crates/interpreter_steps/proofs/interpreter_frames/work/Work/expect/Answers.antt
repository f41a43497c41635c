use Rattle.interpreter_steps.specs.declared.interpreter_frames.frames.Frame.TheVariants as frame
use Rattle.interpreter_steps.proofs.interpreter_frames.Framed.{rest_push}
use Rattle.interpreter_steps.proofs.interpreter_frames.work.Work.expect.Goals as goal

pub returns-clause-rest : goal.returns-clause-rest
returns-clause-rest c = λ p. rest_push p c.args.self.now.frames.items c.push.new.self.frames.items (frame.Value c.args.frame) c.in_ok-push.ensures.frames
