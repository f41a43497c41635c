use Rattle.interpreter_steps.proofs.interpreter_frames.Moves.{moves3}
use Rattle.interpreter.proofs.Binds.{two_binds, three_binds, four_binds}
use Rattle.interpreter.proofs.loops.test_while.Goals as goal

pub returns : goal.returns
returns c = λ p s. rw four_binds (rw c.deref.ensures at (c.evaluate.ensures p s))
