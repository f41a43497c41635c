use Rattle.std.proofs.Common.{◌≡◌, length, vec_len, arith}
use Rattle.interpreter_steps.proofs.interpreter_frames.Framed.{popped_is}
use Rattle.interpreter_steps.proofs.interpreter_frames.work.Work.pop.Goals as goal

pub returns-clause-rest : goal.returns-clause-rest
returns-clause-rest c = λ p.
    let counted : vec_len c.pop.new.self ≡ length c.pop.new.self.items = omega arith in
    popped_is p _ _ _ _ _ counted c.pop.ensures.items c.pop.ensures.cases
