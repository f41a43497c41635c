use Rattle.std.proofs.Common.{refl}
use Rattle.interpreter.proofs.evaluation.loaded_from.Goals as goal

pub returns-in-Load : goal.returns-in-Load
returns-in-Load c = λ p again f other. rw (c.in-Value.is, c.in-Load.is, c.deref.ensures) refl
